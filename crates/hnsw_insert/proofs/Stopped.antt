-- Calls that a fault ends.
use Rattle.std.proofs.Common.{◌≡◌, ◌≤◌, ℕ, List, [], ◌∷◌, ◌++◌, length, take, refl, sym, ap, subst, ◌∙◌, append-nil, append_assoc, arith}
use Rattle.std.specs.Prelude.{Result, Ok, Err, IfErr, OnErr}
use Rattle.std.specs.Result.{IsErrAnd}
use Rattle.std.specs.List.{AllByRecursion}
use Rattle.std.proofs.Math.Seq.{take-length}
use Rattle.std.proofs.lemmas.List.{take-append-le}
use Rattle.vec_names.specs.declared.tid.Tid.{Tid}
use Rattle.vec_history.specs.declared.event.Event.{Event}
use Rattle.vec_history.specs.declared.event.Act.{Act}
use Rattle.vec_steps.specs.declared.ask.Ask.{Ask}
use Rattle.vec_steps.specs.declared.ask.Ask.TheVariants as ask
use Rattle.vec_steps.specs.declared.fault.StepFault.{StepFault}
use Rattle.vec_steps.specs.declared.fault.StepFault.TheVariants as step
use Rattle.vec_steps.specs.declared.fault.OpFault.{OpFault}
use Rattle.vec_steps.specs.declared.fault.OpFault.TheVariants as op
use Rattle.vec_steps.specs.Faults.{op_fault}
use Rattle.vec_steps.specs.Index.{Index}
use Rattle.vec_steps.specs.Doing.{Step, faulted}
use Rattle.vec_steps.specs.Telling.{fault_step}
use Rattle.vec_steps.specs.Desks.{Asks, Desk}
use Rattle.vec_steps.specs.Calls.{Acts, Does, Failed, IsCause, IsLogFault, IsLogFull, course_at}
use Rattle.vec_steps.proofs.Following.{acts_longer, does_over, does_then, fault_does}
use Rattle.layer_search.specs.Looking.{EndedBy}
use Rattle.layer_search.specs.Linking.{IsLinkRefused, StoppedBy}
use Rattle.layer_search.proofs.Looks.{fails}
use Rattle.layer_search.proofs.Steadiness.{all_both}
use Rattle.hnsw_insert.specs.Courses.{IsRoomless, IsUnderGate, IsWhy, NeverFull, StopsBy}
use Rattle.hnsw_insert.proofs.Made.{links_under, looks_under}

-- ---- an ask for which the log had no room

abbrev pub Refused : Desk → Index → List Act → List Act → StepFault → Type 0
Refused d base old new (step.LogFull used size) = IsRoomless d base old new used size
Refused d base old new _ = Unit {0}

at_end : (d : Desk) (base : Index) (old new : List Act) (q : Ask) (used size : ℕ) → length old ≤ length new → IsLogFull d base new q used size
    → IsRoomless d base old new used size
at_end d base old new q used size longer full = record {
  position = length new;
  since = longer;
  met = omega arith;
  ask = q;
  full = subst (λ (l : List Act). IsLogFull d base l q used size) (sym (take-length new)) full;
}

refused : (d : Desk) (base : Index) (old new : List Act) (q : Ask) (f : StepFault) → length old ≤ length new → IsCause d base new q f → Refused d base old new f
refused d base old new q step.Memory longer cause = tt
refused d base old new q (step.LogFull used size) longer cause = at_end d base old new q used size longer cause
refused d base old new q (step.Disk count) longer cause = tt

earlier : {d : Desk} {base : Index} {old mid new : List Act} {used size : ℕ} → length old ≤ length mid → IsRoomless d base mid new used size
    → IsRoomless d base old new used size
earlier longer r = record { position = r.position; since = omega (arith, longer, r.since); met = r.met; ask = r.ask; full = r.full }

still : {desk : ℕ} {d : Desk} {base : Index} {old mid new : List Act} {used size : ℕ} {es : List Event} → Acts desk mid new es → IsRoomless d base old mid used size
    → IsRoomless d base old new used size
still {d = d} {base = base} {mid = mid} {new = new} {used = used} {size = size} x r =
    let same : take r.position new ≡ take r.position mid = ap (take r.position) x.all ∙ take-append-le r.position mid x.more r.met in
    record {
      position = r.position;
      since = r.since;
      met = let long = acts_longer x in omega (arith, r.met, long);
      ask = r.ask;
      full = subst (λ (l : List Act). IsLogFull d base l r.ask used size) (sym same) r.full;
    }

-- ---- a step that failed, after a course

module _ {Is : Step → Type 0} {Full : List (ℕ × Step) → ℕ → ℕ → Type 0} {over : Index → Type 0} {d : Desk} {old new : List Act}
    (is_fault : (count : ℕ) → Is (faulted count)) where
  by_fault : (course : List (ℕ × Step)) (at : ℕ) (f : StepFault) → AllByRecursion (λ s. Is s.1) course
      → Does over d old new (course ++ course_at at (fault_step f)) → ((base : Index) → over base → Refused d base old new f)
      → StopsBy Is Full over d old new (op_fault f)
  by_fault course at step.Memory only x cause = record {
    course = course ++ [];
    does = x;
    only = subst (AllByRecursion (λ s. Is s.1)) (sym (append-nil course)) only;
    why = tt;
  }
  by_fault course at (step.LogFull used size) only x cause = record {
    course = course ++ [];
    does = x;
    only = subst (AllByRecursion (λ s. Is s.1)) (sym (append-nil course)) only;
    why = λ base o. cause base o;
  }
  by_fault course at (step.Disk count) only x cause = record {
    course = course ++ (at, faulted count) ∷ [];
    does = x;
    only = all_both (λ (s : ℕ × Step). Is s.1) course ((at, faulted count) ∷ []) only (is_fault count, tt);
    why = record { before = course; at = at; behind = []; course_is = refl };
  }

  pub stops_of : (course : List (ℕ × Step)) (at : ℕ) (f : StepFault) (end : OpFault) → end ≡ op_fault f → AllByRecursion (λ s. Is s.1) course
      → Does over d old new (course ++ course_at at (fault_step f)) → ((base : Index) → over base → Refused d base old new f)
      → StopsBy Is Full over d old new end
  stops_of course at f end is only x cause = subst (StopsBy Is Full over d old new) (sym is) (by_fault course at f only x cause)

pub never_refused : (d : Desk) (old new : List Act) (base : Index) (f : StepFault) → (IsLogFault f → ⊥) → Refused d base old new f
never_refused d old new base step.Memory never = tt
never_refused d old new base (step.LogFull used size) never = absurd (never tt)
never_refused d old new base (step.Disk count) never = tt

of_link : (d : Desk) (old new : List Act) (to : Tid) (base : Index) (f : StepFault) → length old ≤ length new
    → (IsLogFault f → IsLinkRefused d base new to f) → Refused d base old new f
of_link d old new to base step.Memory longer full = tt
of_link d old new to base (step.LogFull used size) longer full =
    let r = full tt in
    at_end d base old new (ask.Link r.at r.list_at r.level r.version r.layer r.slot r.held to) used size longer r.cause
of_link d old new to base (step.Disk count) longer full = tt

module _ {Full : List (ℕ × Step) → ℕ → ℕ → Type 0} {over : Index → Type 0} {d : Desk} {old new : List Act} where
  pub step_fails : {stands : Index → Type 0} {q : Ask} (f : StepFault) (end : OpFault) → end ≡ op_fault f
      → ((base : Index) → over base → Asks stands d old q base) → Failed (Asks stands d old q) d old new q f
      → StopsBy IsUnderGate Full over d old new end
  step_fails {q = q} f end is may s =
      let x : Does over d old new (course_at s.at (fault_step f)) = fault_does s in
      stops_of (λ count. tt) [] s.at f end is tt x
      (λ base o. refused d base old new q f (acts_longer x.acts) (s.cause base (may base o)))

  pub looks_stop : {end : OpFault} → EndedBy over d old new end → StopsBy IsUnderGate Full over d old new end
  looks_stop {end} b =
      stops_of (λ count. tt) b.looked b.at b.step_fault end b.fault_is (looks_under b.looked b.only_looks) b.does
      (λ base o. never_refused d old new base b.step_fault (b.not_of_log base o))

  pub links_stop : {to : Tid} {end : OpFault} → StoppedBy to over d old new end → StopsBy IsUnderGate Full over d old new end
  links_stop {to} {end} b =
      stops_of (λ count. tt) b.course b.at b.step_fault end b.fault_is (links_under to b.course b.only) b.does
      (λ base o. of_link d old new to base b.step_fault (acts_longer b.does.acts) (b.of_log base o))

-- ---- calls around one that a fault ends

why_then : (Full Whole : List (ℕ × Step) → ℕ → ℕ → Type 0) (over later : Index → Type 0) (d e : Desk) (old mid new : List Act) (a b : List (ℕ × Step))
    → length old ≤ length mid → e ≡ d → ((base : Index) → over base → later base) → ((m n : ℕ) → Full b m n → Whole (a ++ b) m n) → (end : OpFault)
    → IsWhy Full later e mid new b end → IsWhy Whole over d old new (a ++ b) end
why_then Full Whole over later d e old mid new a b longer same on full op.Memory w = tt
why_then Full Whole over later d e old mid new a b longer same on full (op.Full blocks need) w = full blocks need w
why_then Full Whole over later d e old mid new a b longer same on full (op.LogFull used size) w = λ base o.
    subst (λ (k : Desk). IsRoomless k base old new used size) same (earlier longer (w base (on base o)))
why_then Full Whole over later d e old mid new a b longer same on full (op.Disk count) w = record {
  before = a ++ w.before;
  at = w.at;
  behind = w.behind;
  course_is = ap (λ (l : List (ℕ × Step)). a ++ l) w.course_is ∙ sym (append_assoc a w.before ((w.at, faulted count) ∷ w.behind));
}
why_then Full Whole over later d e old mid new a b longer same on full (op.Dimensions got want) w = w

-- after this course
pub stops_then : {Is : Step → Type 0} {Full Whole : List (ℕ × Step) → ℕ → ℕ → Type 0} {over later : Index → Type 0} {d e : Desk} {old mid new : List Act}
    {a : List (ℕ × Step)} {end : OpFault} → e ≡ d → ((base : Index) → over base → later base)
    → ((b : List (ℕ × Step)) (m n : ℕ) → Full b m n → Whole (a ++ b) m n) → Does over d old mid a → AllByRecursion (λ s. Is s.1) a
    → StopsBy Is Full later e mid new end → StopsBy Is Whole over d old new end
stops_then {Is} {Full} {Whole} {over} {later} {d} {e} {old} {mid} {new} {a} {end} same on full x only b = record {
  course = a ++ b.course;
  does = does_then on x (subst (λ (k : Desk). Does later k mid new b.course) same b.does);
  only = all_both (λ (s : ℕ × Step). Is s.1) a b.course only b.only;
  why = why_then Full Whole over later d e old mid new a b.course (acts_longer x.acts) same on (full b.course) end b.why;
}

why_behind : (Full Whole : List (ℕ × Step) → ℕ → ℕ → Type 0) (over : Index → Type 0) (d : Desk) (old mid new : List Act) {es : List Event} (a b : List (ℕ × Step))
    → Acts d.number mid new es → ((m n : ℕ) → Full a m n → Whole (a ++ b) m n) → (end : OpFault)
    → IsWhy Full over d old mid a end → IsWhy Whole over d old new (a ++ b) end
why_behind Full Whole over d old mid new a b x full op.Memory w = tt
why_behind Full Whole over d old mid new a b x full (op.Full blocks need) w = full blocks need w
why_behind Full Whole over d old mid new a b x full (op.LogFull used size) w = λ base o. still x (w base o)
why_behind Full Whole over d old mid new a b x full (op.Disk count) w = record {
  before = w.before;
  at = w.at;
  behind = w.behind ++ b;
  course_is = ap (λ (l : List (ℕ × Step)). l ++ b) w.course_is ∙ append_assoc w.before ((w.at, faulted count) ∷ w.behind) b;
}
why_behind Full Whole over d old mid new a b x full (op.Dimensions got want) w = w

-- before this course
pub stops_before : {Is : Step → Type 0} {Full Whole : List (ℕ × Step) → ℕ → ℕ → Type 0} {over later : Index → Type 0} {d e : Desk} {old mid new : List Act}
    {b : List (ℕ × Step)} {end : OpFault} → e ≡ d → ((base : Index) → over base → later base)
    → ((a : List (ℕ × Step)) (m n : ℕ) → Full a m n → Whole (a ++ b) m n) → StopsBy Is Full over d old mid end → Does later e mid new b
    → AllByRecursion (λ s. Is s.1) b → StopsBy Is Whole over d old new end
stops_before {Is} {Full} {Whole} {over} {later} {d} {e} {old} {mid} {new} {b} {end} same on full s x only =
    let y : Does later d mid new b = subst (λ (k : Desk). Does later k mid new b) same x in
    record {
      course = s.course ++ b;
      does = does_then on s.does y;
      only = all_both (λ (t : ℕ × Step). Is t.1) s.course b s.only only;
      why = why_behind Full Whole over d old mid new s.course b y.acts (full s.course) end s.why;
    }

why_as : (Full Whole : List (ℕ × Step) → ℕ → ℕ → Type 0) (over fewer : Index → Type 0) (d : Desk) (old new : List Act) (a : List (ℕ × Step))
    → ((base : Index) → fewer base → over base) → ((m n : ℕ) → Full a m n → Whole a m n) → (end : OpFault)
    → IsWhy Full over d old new a end → IsWhy Whole fewer d old new a end
why_as Full Whole over fewer d old new a on full op.Memory w = tt
why_as Full Whole over fewer d old new a on full (op.Full blocks need) w = full blocks need w
why_as Full Whole over fewer d old new a on full (op.LogFull used size) w = λ base o. w base (on base o)
why_as Full Whole over fewer d old new a on full (op.Disk count) w = record { before = w.before; at = w.at; behind = w.behind; course_is = w.course_is }
why_as Full Whole over fewer d old new a on full (op.Dimensions got want) w = w

-- the same in weaker words
pub stops_as : {Is So : Step → Type 0} {Full Whole : List (ℕ × Step) → ℕ → ℕ → Type 0} {over fewer : Index → Type 0} {d : Desk} {old new : List Act} {end : OpFault}
    → ((base : Index) → fewer base → over base)
    → ((course : List (ℕ × Step)) → AllByRecursion (λ s. Is s.1) course → AllByRecursion (λ s. So s.1) course)
    → ((a : List (ℕ × Step)) (m n : ℕ) → Full a m n → Whole a m n) → StopsBy Is Full over d old new end → StopsBy So Whole fewer d old new end
stops_as {Is} {So} {Full} {Whole} {over} {fewer} {d} {old} {new} {end} on weaker full s = record {
  course = s.course;
  does = does_over on s.does;
  only = weaker s.course s.only;
  why = why_as Full Whole over fewer d old new s.course on (full s.course) end s.why;
}

-- a call that never is for want of a block
pub never_full : {Is : Step → Type 0} {Full : List (ℕ × Step) → ℕ → ℕ → Type 0} {over fewer : Index → Type 0} {d : Desk} {old new : List Act} {end : OpFault}
    → ((base : Index) → fewer base → over base) → StopsBy Is NeverFull over d old new end → StopsBy Is Full fewer d old new end
never_full on s = stops_as on (λ course all. all) (λ a m n never. absurd never) s

-- what an error that is handed on ended by
pub handed : {T E : Type 0} (P : E → Type 0) {x : E} (r : Result T E) → P x → IsErrAnd r (λ e. e ≡ x) → IfErr r P
handed P r p h = fails r (λ e is. subst P (sym is) p) h

pub on_err : {T E : Type 0} {Q : Type 0} (r : Result T E) → Q → OnErr r Q
on_err (Ok v) q = tt
on_err (Err e) q = q

-- no memory was found, after this course
pub stops_memory : {Is : Step → Type 0} {Full : List (ℕ × Step) → ℕ → ℕ → Type 0} {over : Index → Type 0} {d : Desk} {old new : List Act}
    {a : List (ℕ × Step)} (end : OpFault) → end ≡ op.Memory → Does over d old new a → AllByRecursion (λ s. Is s.1) a
    → StopsBy Is Full over d old new end
stops_memory {Is} {Full} {over} {d} {old} {new} {a} end is x only =
    subst (StopsBy Is Full over d old new) (sym is) (let s : StopsBy Is Full over d old new op.Memory = record { course = a; does = x; only = only; why = tt } in s)
