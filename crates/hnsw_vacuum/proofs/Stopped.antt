-- Calls after each other, and calls that a fault ends.
use Rattle.std.proofs.Common.{◌≡◌, ◌≤◌, ℕ, true, false, cond, List, [], ◌∷◌, ◌++◌, filter, map, length, take, refl, sym, ap, subst, ◌∙◌, append_assoc, arith}
use Rattle.std.specs.Prelude.{Result, Ok, Err, IfErr}
use Rattle.std.specs.Result.{IsErrAnd}
use Rattle.std.specs.List.{AllByRecursion}
use Rattle.std.proofs.Math.Seq.{take-length}
use Rattle.std.proofs.lemmas.List.{take-append-le}
use Rattle.vec_history.specs.declared.event.Act.{Act}
use Rattle.vec_graph.specs.declared.graph.Graph.{Graph}
use Rattle.vec_graph.specs.Shaped as nodes
use Rattle.vec_graph.specs.Legal as history
use Rattle.vec_steps.specs.declared.ask.Ask.{Ask}
use Rattle.vec_steps.specs.declared.fault.StepFault.{StepFault}
use Rattle.vec_steps.specs.declared.fault.StepFault.TheVariants as step
use Rattle.vec_steps.specs.declared.fault.OpFault.{OpFault}
use Rattle.vec_steps.specs.declared.fault.OpFault.TheVariants as op
use Rattle.vec_steps.specs.Faults.{op_fault}
use Rattle.vec_steps.specs.Index.{Index, OfNodes, OfLists, IsLegal, IsShaped}
use Rattle.vec_steps.specs.Doing.{Step, faulted}
use Rattle.vec_steps.specs.Telling.{fault_step}
use Rattle.vec_steps.specs.Desks.{Asks, Desk}
use Rattle.vec_steps.specs.Calls.{Does, Happened, IsCause, IsLogFull, course_at, is_look, look_positions, steps_of}
use Rattle.vec_steps.proofs.Following.{acts_longer, does_nothing, does_over, does_then, fault_does, steps_both}
use Rattle.hnsw_vacuum.specs.Courses.{AllSo, IsNotStepped, IsRoomless, IsWhy, Makes, Making, OverGraphs, StopsBy}

-- ---- lists

pub all_both : {X : Type 0} (P : X → Type 0) (xs ys : List X) → AllByRecursion P xs → AllByRecursion P ys → AllByRecursion P (xs ++ ys)
all_both P [] ys a b = b
all_both P (x ∷ xs) ys a b = (a.0, all_both P xs ys a.1 b)

-- ---- bases

pub graphs_on : {stands later : Index → Type 0} {A B : Graph → Type 0} (new : List Act) (base : Index) → later base → IsShaped base → IsLegal base new
    → ((g : Graph) → stands (OfNodes g) → nodes.IsShaped g → history.IsLegal g new → A g → B g) → OverGraphs stands A base → OverGraphs later B base
graphs_on new (OfNodes g) stood shaped legal on o = record { stood = stood; so = on g o.stood shaped legal o.so }
graphs_on new (OfLists g) stood shaped legal on o = absurd o.so

-- the same desk
pub graphs_as : {stands : Index → Type 0} {A B : Graph → Type 0} (base : Index) → ((g : Graph) → stands (OfNodes g) → A g → B g)
    → OverGraphs stands A base → OverGraphs stands B base
graphs_as (OfNodes g) on o = record { stood = o.stood; so = on g o.stood o.so }
graphs_as (OfLists g) on o = absurd o.so

-- ---- a history that goes on

so_later : (So : Index → List Act → Step → Type 0) (base : Index) (mid more : List Act) (n : ℕ) (s : Step) → n ≤ length mid → So base (take n mid) s
    → So base (take n (mid ++ more)) s
so_later So base mid more n s met t = subst (λ (h : List Act). So base h s) (sym (take-append-le n mid more met)) t

all_later : (So : Index → List Act → Step → Type 0) (base : Index) (d : Desk) (mid more : List Act) (course : List (ℕ × Step)) → Happened base mid d course
    → AllSo So base mid course → AllSo So base (mid ++ more) course
all_later So base d mid more [] h all = tt
all_later So base d mid more (s ∷ course) h all =
    (so_later So base mid more s.0 s.1 h.0.within all.0, all_later So base d mid more course h.1 all.1)

module _ {Is : Step → Type 0} {So : Index → List Act → Step → Type 0} where
  pub making_then : {over later : Index → Type 0} {d e : Desk} {old mid new : List Act} {a b : List (ℕ × Step)} → e ≡ d
      → ((base : Index) → over base → later base) → Making Is So over d old mid a → Making Is So later e mid new b → Making Is So over d old new (a ++ b)
  making_then {over} {later} {d} {e} {old} {mid} {new} {a} {b} same on x y =
      let second : Does later d mid new b = subst (λ (k : Desk). Does later k mid new b) same y.does in
      record {
        does = does_then on x.does second;
        only = all_both (λ (s : ℕ × Step). Is s.1) a b x.only y.only;
        so = λ base o.
            all_both (λ (s : ℕ × Step). So base (take s.0 new) s.1) a b
            (subst (λ (l : List Act). AllSo So base l a) (sym second.acts.all) (all_later So base d mid second.acts.more a (x.does.happened base o) (x.so base o)))
            (y.so base (on base o));
      }

  pub making_none : {over : Index → Type 0} {d : Desk} (acts : List Act) → Making Is So over d acts acts []
  making_none acts = record { does = does_nothing acts; only = tt; so = λ base o. tt }

  pub making_over : {more fewer : Index → Type 0} {d : Desk} {old new : List Act} {a : List (ℕ × Step)} → ((base : Index) → fewer base → more base)
      → Making Is So more d old new a → Making Is So fewer d old new a
  making_over on x = record { does = does_over on x.does; only = x.only; so = λ base o. x.so base (on base o) }

  pub makes_over : {more fewer : Index → Type 0} {d : Desk} {old new : List Act} {t u : List ℕ} {P : List Step → Type 0} → ((base : Index) → fewer base → more base)
      → Makes Is So more d old new t u P → Makes Is So fewer d old new t u P
  makes_over on x = record { course = x.course; made = making_over on x.made; is = x.is; traced = x.traced }

  pub makes_as : {over : Index → Type 0} {d : Desk} {old new : List Act} {t u : List ℕ} {P Q : List Step → Type 0} → ((steps : List Step) → P steps → Q steps)
      → Makes Is So over d old new t u P → Makes Is So over d old new t u Q
  makes_as turn x = record { course = x.course; made = x.made; is = turn (steps_of x.course) x.is; traced = x.traced }

-- ---- looks

looks_both : (a b : List (ℕ × Step)) → look_positions (a ++ b) ≡ look_positions a ++ look_positions b
looks_both [] b = refl
looks_both (s ∷ a) b =
    elim (is_look s.1) as (λ l. map (λ (t : ℕ × Step). t.0) (cond l (s ∷ filter (λ (t : ℕ × Step). is_look t.1) (a ++ b)) (filter (λ (t : ℕ × Step). is_look t.1) (a ++ b)))
    ≡ map (λ (t : ℕ × Step). t.0) (cond l (s ∷ filter (λ (t : ℕ × Step). is_look t.1) a) (filter (λ (t : ℕ × Step). is_look t.1) a)) ++ look_positions b) [
      | true ↦ ap (λ (l : List ℕ). s.0 ∷ l) (looks_both a b)
      | false ↦ looks_both a b
    ]

pub traced_then : (a b : List (ℕ × Step)) (t u v : List ℕ) → u ≡ t ++ look_positions a → v ≡ u ++ look_positions b → v ≡ t ++ look_positions (a ++ b)
traced_then a b t u v first second =
    second ∙ ap (λ (l : List ℕ). l ++ look_positions b) first ∙ append_assoc t (look_positions a) (look_positions b)
    ∙ ap (λ (l : List ℕ). t ++ l) (sym (looks_both a b))

-- what was done first and what then
module _ {Is : Step → Type 0} {So : Index → List Act → Step → Type 0} where
  pub makes_then : {over later : Index → Type 0} {d e : Desk} {old mid new : List Act} {t u v : List ℕ} {P Q R : List Step → Type 0} → e ≡ d
      → ((base : Index) → over base → later base) → ((a b : List Step) → P a → Q b → R (a ++ b)) → Makes Is So over d old mid t u P
      → Makes Is So later e mid new u v Q → Makes Is So over d old new t v R
  makes_then {t = t} {u = u} {v = v} {R = R} same on both x y = record {
    course = x.course ++ y.course;
    made = making_then same on x.made y.made;
    is = subst R (sym (steps_both x.course y.course)) (both (steps_of x.course) (steps_of y.course) x.is y.is);
    traced = traced_then x.course y.course t u v x.traced y.traced;
  }

-- ---- a step that failed

at_end : (d : Desk) (base : Index) (old new : List Act) (q : Ask) (used size : ℕ) → length old ≤ length new → IsLogFull d base new q used size
    → IsRoomless d base old new used size
at_end d base old new q used size longer full = record {
  position = length new;
  since = longer;
  met = omega arith;
  ask = q;
  full = subst (λ (l : List Act). IsLogFull d base l q used size) (sym (take-length new)) full;
}

module _ {Is : Step → Type 0} {So : Index → List Act → Step → Type 0} (fault_is : (count : ℕ) → Is (faulted count))
    (fault_so : (base : Index) (acts : List Act) (count : ℕ) → So base acts (faulted count)) {over stands : Index → Type 0} {d : Desk} {old new : List Act} {q : Ask}
    (may : (base : Index) → over base → Asks stands d old q base) where
  by_fault : (at : ℕ) (f : StepFault) → Does over d old new (course_at at (fault_step f))
      → ((base : Index) → over base → IsCause d base new q f) → StopsBy Is So over d old new (op_fault f)
  by_fault at step.Memory x cause = record { course = []; made = record { does = x; only = tt; so = λ base o. tt }; why = tt }
  by_fault at (step.LogFull used size) x cause = record {
    course = [];
    made = record { does = x; only = tt; so = λ base o. tt };
    why = λ base o. at_end d base old new q used size (acts_longer x.acts) (cause base o);
  }
  by_fault at (step.Disk count) x cause = record {
    course = (at, faulted count) ∷ [];
    made = record { does = x; only = (fault_is count, tt); so = λ base o. (fault_so base (take at new) count, tt) };
    why = record { before = []; at = at; behind = []; course_is = refl };
  }

  pub step_fails : (end : OpFault) → IsNotStepped (Asks stands d old q) d old new q end → StopsBy Is So over d old new end
  step_fails end s =
      subst (StopsBy Is So over d old new) (sym s.end_is) (by_fault s.failed.at s.fault (fault_does s.failed) (λ base o. s.failed.cause base (may base o)))

-- ---- a call that a fault ends, after others

earlier : {d : Desk} {base : Index} {old mid new : List Act} {used size : ℕ} → length old ≤ length mid → IsRoomless d base mid new used size
    → IsRoomless d base old new used size
earlier longer r = record { position = r.position; since = omega (arith, longer, r.since); met = r.met; ask = r.ask; full = r.full }

why_then : (over later : Index → Type 0) (d e : Desk) (old mid new : List Act) (a b : List (ℕ × Step)) → length old ≤ length mid → e ≡ d
    → ((base : Index) → over base → later base) → (end : OpFault) → IsWhy later e mid new b end → IsWhy over d old new (a ++ b) end
why_then over later d e old mid new a b longer same on op.Memory w = tt
why_then over later d e old mid new a b longer same on (op.Full blocks need) w = w
why_then over later d e old mid new a b longer same on (op.LogFull used size) w = λ base o.
    subst (λ (k : Desk). IsRoomless k base old new used size) same (earlier longer (w base (on base o)))
why_then over later d e old mid new a b longer same on (op.Disk count) w = record {
  before = a ++ w.before;
  at = w.at;
  behind = w.behind;
  course_is = ap (λ (l : List (ℕ × Step)). a ++ l) w.course_is ∙ sym (append_assoc a w.before ((w.at, faulted count) ∷ w.behind));
}
why_then over later d e old mid new a b longer same on (op.Dimensions got want) w = w

why_over : (more fewer : Index → Type 0) (d : Desk) (old new : List Act) (a : List (ℕ × Step)) → ((base : Index) → fewer base → more base)
    → (end : OpFault) → IsWhy more d old new a end → IsWhy fewer d old new a end
why_over more fewer d old new a on op.Memory w = tt
why_over more fewer d old new a on (op.Full blocks need) w = w
why_over more fewer d old new a on (op.LogFull used size) w = λ base o. w base (on base o)
why_over more fewer d old new a on (op.Disk count) w = w
why_over more fewer d old new a on (op.Dimensions got want) w = w

module _ {Is : Step → Type 0} {So : Index → List Act → Step → Type 0} where
  pub stops_then : {over later : Index → Type 0} {d e : Desk} {old mid new : List Act} {a : List (ℕ × Step)} {end : OpFault} → e ≡ d
      → ((base : Index) → over base → later base) → Making Is So over d old mid a → StopsBy Is So later e mid new end → StopsBy Is So over d old new end
  stops_then {over} {later} {d} {e} {old} {mid} {new} {a} {end} same on x b = record {
    course = a ++ b.course;
    made = making_then same on x b.made;
    why = why_then over later d e old mid new a b.course (acts_longer x.does.acts) same on end b.why;
  }

  pub stops_over : {more fewer : Index → Type 0} {d : Desk} {old new : List Act} {end : OpFault} → ((base : Index) → fewer base → more base)
      → StopsBy Is So more d old new end → StopsBy Is So fewer d old new end
  stops_over {more} {fewer} {d} {old} {new} {end} on b = record {
    course = b.course;
    made = making_over on b.made;
    why = why_over more fewer d old new b.course on end b.why;
  }

  -- no memory was found, after this course
  pub stops_memory : {over : Index → Type 0} {d : Desk} {old new : List Act} {a : List (ℕ × Step)} (end : OpFault) → end ≡ op.Memory
      → Making Is So over d old new a → StopsBy Is So over d old new end
  stops_memory {over} {d} {old} {new} {a} end is x =
      subst (StopsBy Is So over d old new) (sym is) (let s : StopsBy Is So over d old new op.Memory = record { course = a; made = x; why = tt } in s)

-- in wider words
module _ {Is Js : Step → Type 0} {So To : Index → List Act → Step → Type 0} (wider : (s : Step) → Is s → Js s)
    (so : (base : Index) (acts : List Act) (s : Step) → Is s → So base acts s → To base acts s) where
  only_as : (course : List (ℕ × Step)) → AllByRecursion (λ (s : ℕ × Step). Is s.1) course → AllByRecursion (λ (s : ℕ × Step). Js s.1) course
  only_as [] all = tt
  only_as (s ∷ course) all = (wider s.1 all.0, only_as course all.1)

  so_as : (base : Index) (acts : List Act) (course : List (ℕ × Step)) → AllByRecursion (λ (s : ℕ × Step). Is s.1) course → AllSo So base acts course
      → AllSo To base acts course
  so_as base acts [] only all = tt
  so_as base acts (s ∷ course) only all = (so base (take s.0 acts) s.1 only.0 all.0, so_as base acts course only.1 all.1)

  pub making_as : {over : Index → Type 0} {d : Desk} {old new : List Act} {a : List (ℕ × Step)} → Making Is So over d old new a → Making Js To over d old new a
  making_as {new = new} {a = a} x = record { does = x.does; only = only_as a x.only; so = λ base o. so_as base new a x.only (x.so base o) }

  pub stops_as : {over : Index → Type 0} {d : Desk} {old new : List Act} {end : OpFault} → StopsBy Is So over d old new end → StopsBy Js To over d old new end
  stops_as b = record { course = b.course; made = making_as b.made; why = b.why }

-- what an error that is handed on ended by
pub handed : {T E : Type 0} (P : E → Type 0) {x : E} (r : Result T E) → P x → IsErrAnd r (λ e. e ≡ x) → IfErr r P
handed P (Ok v) p h = absurd h
handed P (Err e) p h = subst P (sym h) p
