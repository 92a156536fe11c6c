-- Parts of a vacuum, one after the other, and what such steps leave as it was.
use Rattle.std.proofs.Common.{◌≡◌, ℕ, true, false, List, [], ◌∷◌, ◌++◌, refl, sym, ap, subst, ◌∙◌, append-nil, append_assoc}
use Rattle.std.specs.List.{AllByRecursion}
use Rattle.vec_names.specs.declared.params.Params.{Params}
use Rattle.vec_history.specs.declared.event.Event.{Event}
use Rattle.vec_history.specs.declared.event.Act.{Act}
use Rattle.vec_steps.specs.Index.{Index}
use Rattle.vec_steps.specs.Doing.{Step, step_events}
use Rattle.vec_steps.specs.Desks.{Desk}
use Rattle.vec_steps.specs.Calls.{NoneOf, events_of, look_positions, steps_of}
use Rattle.vec_steps.proofs.Following.{steps_both}
use Rattle.hnsw_vacuum.specs.declared.tally.Tally.{Tally}
use Rattle.hnsw_vacuum.specs.Courses.{Makes, Making}
use Rattle.hnsw_vacuum.specs.Tallies.{GoesOnUnless, InTurn, IsIdle}
use Rattle.hnsw_vacuum.proofs.Stopped.{making_none, making_then, traced_then}

-- ---- events

none_both : (P : Event → Type 0) (es fs : List Event) → NoneOf P es → NoneOf P fs → NoneOf P (es ++ fs)
none_both P [] fs a b = b
none_both P (e ∷ es) fs a b = (a.0, none_both P es fs a.1 b)

-- steps none of which makes such an event
pub none_made : (P : Event → Type 0) (Is : Step → Type 0) (p : Params) → ((s : Step) → Is s → NoneOf P (step_events p s)) → (course : List (ℕ × Step))
    → AllByRecursion (λ (s : ℕ × Step). Is s.1) course → NoneOf P (events_of p (steps_of course))
none_made P Is p none [] all = tt
none_made P Is p none (s ∷ course) all =
    none_both P (step_events p s.1) (events_of p (steps_of course)) (none s.1 all.0) (none_made P Is p none course all.1)

pub only_steps : (Is : Step → Type 0) (course : List (ℕ × Step)) → AllByRecursion (λ (s : ℕ × Step). Is s.1) course → AllByRecursion Is (steps_of course)
only_steps Is [] all = tt
only_steps Is (s ∷ course) all = (all.0, only_steps Is course all.1)

-- ---- parts

-- What was done so far, and then what is left, is all of it.
pub record SoFar (Is : Step → Type 0) (So : Index → List Act → Step → Type 0) (over : Index → Type 0) (d : Desk) (old new : List Act)
    (trace traces : List ℕ) (All Left : Tally → Tally → List Step → Type 0) (before now : Tally) : Type 0 where
  pub course : List (ℕ × Step)
  pub made : Making Is So over d old new course
  pub traced : traces ≡ trace ++ look_positions course
  pub going : now.due ≡ false
  pub rest : (end : Tally) (steps : List Step) → Left now end steps → All before end (steps_of course ++ steps)

module _ {Is : Step → Type 0} {So : Index → List Act → Step → Type 0} where
  pub nothing_yet : {over : Index → Type 0} {d : Desk} (acts : List Act) (trace : List ℕ) {All : Tally → Tally → List Step → Type 0} (t : Tally) → t.due ≡ false
      → SoFar Is So over d acts acts trace trace All All t t
  nothing_yet acts trace t going = record {
    course = [];
    made = making_none acts;
    traced = sym (append-nil trace);
    going = going;
    rest = λ end steps h. h;
  }

  pub whole : {over : Index → Type 0} {d : Desk} {old new : List Act} {trace traces : List ℕ} {All Left : Tally → Tally → List Step → Type 0} {before now : Tally}
      → SoFar Is So over d old new trace traces All Left before now → Left now now [] → Makes Is So over d old new trace traces (All before now)
  whole {All = All} {before = before} {now = now} so ended = record {
    course = so.course;
    made = so.made;
    is = subst (All before now) (append-nil (steps_of so.course)) (so.rest now [] ended);
    traced = so.traced;
  }

  module _ {over later : Index → Type 0} {d e : Desk} {old mid new : List Act} (same : e ≡ d) (on : (base : Index) → over base → later base) {t u v : List ℕ}
      {All First Rest : Tally → Tally → List Step → Type 0} {before between now : Tally}
      (so : SoFar Is So over d old mid t u All (InTurn First Rest) before between) (x : Makes Is So later e mid new u v (First between now)) where
    in_turn : (end : Tally) (steps : List Step) → GoesOnUnless now.due Rest now end steps → All before end (steps_of (so.course ++ x.course) ++ steps)
    in_turn end steps h =
        let lists : steps_of so.course ++ (steps_of x.course ++ steps) ≡ steps_of (so.course ++ x.course) ++ steps =
        sym (append_assoc (steps_of so.course) (steps_of x.course) steps) ∙ ap (λ (l : List Step). l ++ steps) (sym (steps_both so.course x.course)) in
        subst (All before end) lists (so.rest end (steps_of x.course ++ steps)
        (record { between = now; first = steps_of x.course; rest = steps; is_first = x.is; is_rest = h; steps_are = refl }))

    pub one_part : now.due ≡ false → SoFar Is So over d old new t v All Rest before now
    one_part going = record {
      course = so.course ++ x.course;
      made = making_then same on so.made x.made;
      traced = traced_then so.course x.course t u v so.traced x.traced;
      going = going;
      rest = λ end steps h. in_turn end steps (subst (λ b. GoesOnUnless b Rest now end steps) (sym going) h);
    }

    -- a change was due for which nothing was left
    pub last_part : now.due ≡ true → Makes Is So over d old new t v (All before now)
    last_part due =
        let idle : IsIdle now now [] = record { same = refl; none = refl } in
        record {
          course = so.course ++ x.course;
          made = making_then same on so.made x.made;
          is = subst (All before now) (append-nil (steps_of (so.course ++ x.course)))
              (in_turn now [] (subst (λ b. GoesOnUnless b Rest now now []) (sym due) idle));
          traced = traced_then so.course x.course t u v so.traced x.traced;
        }
