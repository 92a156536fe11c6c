-- An insert from gate to gate.
use Rattle.std.proofs.Common.{◌≡◌, ◌≤◌, inl, inr, ℕ, zero, suc, Bool, cond, if◌then◌else◌, arith, true, false, List, [], ◌∷◌, ◌++◌, Option, Some, None, refl, sym, ap, subst, ◌∙◌, append-nil, append_assoc}
use Rattle.std.specs.Prelude.{Result, Ok, Err, IfOk, IfErr, OnOk, OnErr}
use Rattle.std.specs.List.{AllByRecursion}
use Rattle.vec_names.specs.declared.heap_id.HeapId.{HeapId}
use Rattle.vec_history.specs.declared.event.Act.{Act}
use Rattle.vec_history.specs.declared.gate.Gate.{Gate}
use Rattle.vec_history.specs.declared.gate.Gate.TheVariants.{Update}
use Rattle.vec_history.specs.declared.gate.Hold.{Hold}
use Rattle.vec_history.specs.declared.gate.Hold.TheVariants.{Shared, Alone}
use Rattle.vec_history.specs.Gates.{Holds}
use Rattle.graph_search.specs.Deeds.{Deed, Done, Releases, Takes, asked}
use Rattle.graph_search.specs.Insert.{MetaTold, Newcomer, beside, alone, meta_look}
use Rattle.vec_steps.specs.declared.fault.StepFault.{StepFault}
use Rattle.vec_steps.specs.declared.fault.StepFault.TheVariants as step
use Rattle.vec_steps.specs.declared.fault.OpFault.{OpFault}
use Rattle.vec_steps.specs.declared.fault.OpFault.TheVariants as op
use Rattle.vec_steps.specs.Faults.{op_fault}
use Rattle.vec_steps.specs.Index.{Index}
use Rattle.vec_steps.specs.Doing.{Step, did}
use Rattle.vec_steps.specs.Telling.{fault_step}
use Rattle.vec_steps.specs.Desks.{Desk}
use Rattle.vec_steps.specs.Calls.{AreDeeds, course_at}
use Rattle.vec_steps.proofs.Following.{does_nothing, does_over}
use Rattle.vec_steps.proofs.AsDeeds.{deeds_both}
use Rattle.step_gates.specs.Gating.{GateFailed, GivesBack, TakesGate}
use Rattle.vec_names.specs.Levels.{does_reach, level_of, levels_reached, most_level}
use Rattle.layer_search.specs.Listing.{newcomer_in}
use Rattle.hnsw_insert.specs.declared.landing.Inserted.{Inserted}
use Rattle.hnsw_insert.specs.declared.landing.Landing.{Landing}
use Rattle.hnsw_insert.specs.Courses.{Did, IsOfInsert, IsUnderGate, KeepsGate, NeverFull, StopsBy, Went}
use Rattle.hnsw_insert.specs.Parts.{GoesThrough, IsFullHeld, IsFullUnder, RunsHeld, RunsUnder, TurnsBack}
use Rattle.hnsw_insert.specs.Whole.{FailsSo, GivesGate, Inserts, InsertsOnce, IsFull, landing_of}
use Rattle.hnsw_insert.proofs.Made.{went_did, went_over, went_then}
use Rattle.hnsw_insert.proofs.Quiet.{all_of_insert, held_back, held_on}
use Rattle.hnsw_insert.proofs.Stopped.{never_refused, stops_as, stops_before, stops_memory, stops_of, stops_then}

-- ---- gates as deeds

pub went_take : {over : Index → Type 0} {d : Desk} {old new : List Act} {hold : Hold} → TakesGate over d old new Update hold → (trace : List ℕ)
    → Went over d old new trace trace (asked (Takes Update hold) Done ∷ [])
went_take {hold = hold} t trace = record {
  course = (t.at, did (asked (Takes Update hold) Done)) ∷ [];
  does = t.does;
  is = record { are = (refl, tt); only = (refl, tt); traced = sym (append-nil trace) };
}

pub went_back : {over : Index → Type 0} {d : Desk} {old new : List Act} → GivesBack over d old new Update → (trace : List ℕ)
    → Went over d old new trace trace (asked (Releases Update) Done ∷ [])
went_back t trace = record {
  course = (t.at, did (asked (Releases Update) Done)) ∷ [];
  does = t.does;
  is = record { are = (refl, tt); only = (refl, tt); traced = sym (append-nil trace) };
}

pub taken_holds : {over : Index → Type 0} {d : Desk} {old new : List Act} {gate : Gate} {hold : Hold} → TakesGate over d old new gate hold → Holds new d.number gate
taken_holds {hold = hold} t = (hold, (t.at, t.holds))

fault_under : (f : StepFault) (at : ℕ) → AllByRecursion (λ (s : ℕ × Step). IsUnderGate s.1) (course_at at (fault_step f))
fault_under step.Memory at = tt
fault_under (step.LogFull used size) at = tt
fault_under (step.Disk count) at = (tt, tt)

pub gate_stops : {Full : List (ℕ × Step) → ℕ → ℕ → Type 0} {over : Index → Type 0} {d : Desk} {old new : List Act} {fault : OpFault}
    → GateFailed over d old new fault → StopsBy IsOfInsert Full over d old new fault
gate_stops {d = d} {old = old} {new = new} {fault = fault} f = stops_of (λ count. tt) [] f.at f.step_fault fault f.fault_is tt f.does (λ base o. never_refused d old new base f.step_fault (f.not_of_log base o))

module _ {over : Index → Type 0} {d : Desk} {old new : List Act} {fault : OpFault} (f : GateFailed over d old new fault) where
  pub gate_free : (Holds old d.number Update → ⊥) → Holds new d.number Update → ⊥
  gate_free free h = free (held_back f.does (fault_under f.step_fault f.at) h)

  pub gate_keeps : (fault ≡ op.Memory → ⊥) → KeepsGate over d new
  gate_keeps not_memory = record { mid = old; fault = fault; failed = f; not_memory = not_memory }

pub takes_over : {more fewer : Index → Type 0} {d : Desk} {old new : List Act} {gate : Gate} {hold : Hold} → ((base : Index) → fewer base → more base)
    → TakesGate more d old new gate hold → TakesGate fewer d old new gate hold
takes_over on t = record { at = t.at; does = does_over on t.does; holds = t.holds }

pub failed_over : {more fewer : Index → Type 0} {d : Desk} {old new : List Act} {fault : OpFault} → ((base : Index) → fewer base → more base)
    → GateFailed more d old new fault → GateFailed fewer d old new fault
failed_over on f = record {
  at = f.at;
  step_fault = f.step_fault;
  fault_is = f.fault_is;
  does = does_over on f.does;
  not_of_log = λ base o. f.not_of_log base (on base o);
}

-- the same desk, over more bases
pub keeps_over : {more fewer : Index → Type 0} {d e : Desk} {new : List Act} → e ≡ d → ((base : Index) → fewer base → more base) → KeepsGate more e new
    → KeepsGate fewer d new
keeps_over {more} {fewer} {d} {e} {new} same on k = subst (λ (x : Desk). KeepsGate fewer x new) same (record {
  mid = k.mid;
  fault = k.fault;
  failed = failed_over on k.failed;
  not_memory = k.not_memory;
})

-- ---- all was done between two gates

module _ {over under behind : Index → Type 0} {d e f : Desk} {old mid amid new : List Act} (before now : List ℕ) {hold : Hold} (same_1 : e ≡ d) (same_2 : f ≡ e)
    (on_1 : (base : Index) → over base → under base) (on_2 : (base : Index) → under base → behind base) where
  module _ (t : TakesGate over d old mid Update hold) (b : GivesBack behind f amid new Update) where
    pub held_all : (n : Newcomer) (id : HeapId) (o : Option Landing) → RunsUnder under e mid amid before now hold n id o → RunsHeld over d old new before now hold n id o
    held_all n id None u = record {
      told = u.told;
      shared = u.shared;
      above = u.above;
      made = went_then same_1 on_1 (went_take t before) (went_then same_2 on_2 (went_did u.made) (went_back b now));
    }
    held_all n id (Some landing) u = record {
      told = u.told;
      kept = u.kept;
      outcome = u.outcome;
      landing_is = u.landing_is;
      deeds = u.deeds;
      course = u.course;
      made = went_then same_1 on_1 (went_take t before) (went_then same_2 on_2 (went_did u.made) (went_back b now));
    }

-- ---- a fault between two gates

-- the gate was taken first
pub record IsFullTaken (hold : Hold) (level : ℕ) (course : List (ℕ × Step)) (blocks need : ℕ) : Type 0 where
  pub taken : List (ℕ × Step)
  pub taken_is : AreDeeds taken (asked (Takes Update hold) Done ∷ [])
  pub under : List (ℕ × Step)
  pub full : IsFullUnder hold level under blocks need
  pub course_is : course ≡ taken ++ under

end_held : (hold : Hold) (level : ℕ) (a b : List (ℕ × Step)) (m n : ℕ) → IsFullTaken hold level a m n → IsFullHeld hold level (a ++ b) m n
end_held hold level a b m n full = record {
  taken = full.taken;
  taken_is = full.taken_is;
  under = full.under;
  full = full.full;
  behind = b;
  course_is = ap (λ (l : List (ℕ × Step)). l ++ b) full.course_is;
}

fault_taken : {over under : Index → Type 0} {d e : Desk} {old mid amid : List Act} {hold : Hold} {fault : OpFault} (level : ℕ) → e ≡ d → ((base : Index) → over base → under base)
    → TakesGate over d old mid Update hold → StopsBy IsUnderGate (IsFullUnder hold level) under e mid amid fault
    → StopsBy IsOfInsert (IsFullTaken hold level) over d old amid fault
fault_taken {under = under} {e = e} {mid = mid} {amid = amid} {hold = hold} {fault = fault} level same on t s =
    let g : StopsBy IsOfInsert (IsFullUnder hold level) under e mid amid fault = stops_as (λ base o. o) all_of_insert (λ a m n full. full) s in
    stops_then same on
    (λ b m n full. record {
      taken = (t.at, did (asked (Takes Update hold) Done)) ∷ [];
      taken_is = (refl, tt);
      under = b;
      full = full;
      course_is = refl;
    }) t.does (refl, tt) g

module _ {over under behind : Index → Type 0} {d e f : Desk} {old mid amid new : List Act} {hold : Hold} (level : ℕ) (same_1 : e ≡ d) (same_2 : f ≡ e)
    (on_1 : (base : Index) → over base → under base) (on_2 : (base : Index) → under base → behind base) (t : TakesGate over d old mid Update hold) where
  -- and was given back
  pub fault_given : {fault : OpFault} → StopsBy IsUnderGate (IsFullUnder hold level) under e mid amid fault → GivesBack behind f amid new Update
      → StopsBy IsOfInsert (IsFullHeld hold level) over d old new fault
  fault_given s b =
      stops_before (same_2 ∙ same_1) (λ base o. on_2 base (on_1 base o)) (λ a m n full. end_held hold level a _ m n full) (fault_taken level same_1 on_1 t s) b.does (refl, tt)

  -- or this failed too
  pub fault_kept : {fault : OpFault} (other : OpFault) → StopsBy IsUnderGate (IsFullUnder hold level) under e mid amid fault → GateFailed behind f amid new other
      → StopsBy IsOfInsert (IsFullHeld hold level) over d old new fault
  fault_kept other s b =
      stops_before (same_2 ∙ same_1) (λ base o. on_2 base (on_1 base o)) (λ a m n full. end_held hold level a _ m n full) (fault_taken level same_1 on_1 t s) b.does
      (all_of_insert (course_at b.at (fault_step b.step_fault)) (fault_under b.step_fault b.at))

  -- or this alone failed
  pub late_fault : {before now : List ℕ} {ds : List Deed} {fault : OpFault} → Did under e mid amid before now ds → GateFailed behind f amid new fault
      → StopsBy IsOfInsert (IsFullHeld hold level) over d old new fault
  late_fault {fault = fault} m b =
      let g : StopsBy IsOfInsert NeverFull behind f amid new fault = gate_stops b in
      let w : StopsBy IsOfInsert NeverFull under e mid new fault =
      stops_then same_2 on_2 (λ c k n full. absurd full) m.does (all_of_insert m.course m.is.only) g in
      stops_then same_1 on_1 (λ c k n full. absurd full) t.does (refl, tt) w

-- what was done under the gate
pub under_did : {under : Index → Type 0} {e : Desk} {mid amid : List Act} {before now : List ℕ} (hold : Hold) (n : Newcomer) (id : HeapId) (o : Option Landing)
    → RunsUnder under e mid amid before now hold n id o → (ds : List Deed) × Did under e mid amid before now ds
under_did hold n id None u = (meta_look u.told ∷ [], u.made)
under_did hold n id (Some landing) u = (meta_look u.told ∷ u.deeds, u.made)

-- ---- whatever came of what was done under the gate

-- the gate is held after it
pub held_after : (under : Index → Type 0) {e f : Desk} {mid amid : List Act} (Full : List (ℕ × Step) → ℕ → ℕ → Type 0) (before now : List ℕ) (hold : Hold) (n : Newcomer) (id : HeapId)
    (r : Result (Option Landing) OpFault) → f ≡ e → IfOk r (RunsUnder under e mid amid before now hold n id) → IfErr r (StopsBy IsUnderGate Full under e mid amid)
    → Holds mid e.number Update → Holds amid f.number Update
held_after under {amid = amid} Full before now hold n id (Ok o) same ok err held =
    let u = under_did hold n id o ok in
    subst (λ (k : Desk). Holds amid k.number Update) (sym same) (held_on u.1.does u.1.is.only held)
held_after under {amid = amid} Full before now hold n id (Err x) same ok err held =
    subst (λ (k : Desk). Holds amid k.number Update) (sym same) (held_on err.does err.only held)

module _ {over under behind : Index → Type 0} {d e f : Desk} {old mid amid new : List Act} (before now : List ℕ) {hold : Hold} (n : Newcomer) (id : HeapId) (same_1 : e ≡ d)
    (same_2 : f ≡ e) (on_1 : (base : Index) → over base → under base) (on_2 : (base : Index) → under base → behind base) (t : TakesGate over d old mid Update hold) where
  pub all_held : (r : Result (Option Landing) OpFault) → GivesBack behind f amid new Update → IfOk r (RunsUnder under e mid amid before now hold n id)
      → IfOk r (RunsHeld over d old new before now hold n id)
  all_held (Ok o) b ok = held_all before now same_1 same_2 on_1 on_2 t b n id o ok
  all_held (Err x) b ok = tt

  pub fault_held : (r : Result (Option Landing) OpFault) → GivesBack behind f amid new Update → IfErr r (StopsBy IsUnderGate (IsFullUnder hold n.level) under e mid amid)
      → IfErr r (StopsBy IsOfInsert (IsFullHeld hold n.level) over d old new)
  fault_held (Ok o) b err = tt
  fault_held (Err x) b err = fault_given n.level same_1 same_2 on_1 on_2 t err b

  pub late_held : (r : Result (Option Landing) OpFault) (x other : OpFault) → GateFailed behind f amid new other → IfErr r (λ y. x ≡ y) → OnOk r (x ≡ other)
      → IfOk r (RunsUnder under e mid amid before now hold n id) → IfErr r (StopsBy IsUnderGate (IsFullUnder hold n.level) under e mid amid)
      → StopsBy IsOfInsert (IsFullHeld hold n.level) over d old new x
  late_held (Ok o) x other b first second ok err =
      let u = under_did hold n id o ok in
      subst (StopsBy IsOfInsert (IsFullHeld hold n.level) over d old new) (sym second) (late_fault n.level same_1 same_2 on_1 on_2 t u.1 b)
  late_held (Err y) x other b first second ok err =
      subst (StopsBy IsOfInsert (IsFullHeld hold n.level) over d old new) (sym first) (fault_kept n.level same_1 same_2 on_1 on_2 t other err b)

pub given_back : (over : Index → Type 0) {behind : Index → Type 0} {d f : Desk} {amid new : List Act} (r : Result (Option Landing) OpFault) → f ≡ d → GivesBack behind f amid new Update
    → OnErr r (GivesGate over d new)
given_back over (Ok o) same b = tt
given_back over {new = new} (Err x) same b = inl (subst (λ (k : Desk). Holds new k.number Update → ⊥) same b.free)

pub freed : {behind : Index → Type 0} {d f : Desk} {amid new : List Act} (r : Result (Option Landing) OpFault) → f ≡ d → GivesBack behind f amid new Update
    → OnOk r (Holds new d.number Update → ⊥)
freed {new = new} (Ok o) same b = subst (λ (k : Desk). Holds new k.number Update → ⊥) same b.free
freed (Err x) same b = tt

-- ---- one gate or two

not_shared : Alone ≡ Shared → ⊥
not_shared e = absurd cc

pub never_back : {over : Index → Type 0} {d : Desk} {old new : List Act} {before now : List ℕ} {level : ℕ} → TurnsBack over d old new before now Alone level → ⊥
never_back b = not_shared b.shared

pub once_beside : {over : Index → Type 0} {d : Desk} {old new : List Act} {before now : List ℕ} (n : Newcomer) (id : HeapId) (landing : Landing)
    → GoesThrough over d old new before now Shared n id landing → InsertsOnce over d old new before now n id landing
once_beside n id landing t = record {
  outcome = t.outcome;
  landing_is = t.landing_is;
  told = t.told;
  front = asked (Takes Update Shared) Done ∷ meta_look t.told ∷ [];
  opens = beside (t.kept refl);
  under = t.deeds;
  course = t.course;
  made = t.made;
}

as_shared : {over : Index → Type 0} {d : Desk} {old new : List Act} {before now : List ℕ} (told : MetaTold) (hold : Hold) → hold ≡ Shared
    → Went over d old new before now (asked (Takes Update hold) Done ∷ meta_look told ∷ asked (Releases Update) Done ∷ [])
    → Went over d old new before now (asked (Takes Update Shared) Done ∷ meta_look told ∷ asked (Releases Update) Done ∷ [])
as_shared {over} {d} {old} {new} {before} {now} told hold is w =
    subst (λ h. Went over d old new before now (asked (Takes Update h) Done ∷ meta_look told ∷ asked (Releases Update) Done ∷ [])) is w

pub once_alone : {over later : Index → Type 0} {d e : Desk} {old mid new : List Act} {before amid now : List ℕ} (n : Newcomer) (id : HeapId) (landing : Landing) → e ≡ d
    → ((base : Index) → over base → later base) → TurnsBack over d old mid before amid Shared n.level → GoesThrough later e mid new amid now Alone n id landing
    → InsertsOnce over d old new before now n id landing
once_alone n id landing same on b t = record {
  outcome = t.outcome;
  landing_is = t.landing_is;
  told = t.told;
  front = asked (Takes Update Shared) Done ∷ meta_look b.told ∷ asked (Releases Update) Done ∷ asked (Takes Update Alone) Done ∷ meta_look t.told ∷ [];
  opens = alone b.told b.above;
  under = t.deeds;
  course = t.course;
  made = went_then same on b.made t.made;
}

parts : (taken look rest behind : List (ℕ × Step)) → (taken ++ (look ++ rest)) ++ behind ≡ ((taken ++ look) ++ rest) ++ behind
parts taken look rest behind = ap (λ (l : List (ℕ × Step)). l ++ behind) (sym (append_assoc taken look rest))

pub full_beside : (level : ℕ) (a : List (ℕ × Step)) (m n : ℕ) → IsFullHeld Shared level a m n → IsFull level a m n
full_beside level a m n h =
    let u = h.full in
    record {
      told = u.told;
      front = asked (Takes Update Shared) Done ∷ meta_look u.told ∷ [];
      opens = beside (u.kept refl);
      opening = h.taken ++ u.look;
      opening_is = deeds_both h.taken u.look (asked (Takes Update Shared) Done ∷ []) (meta_look u.told ∷ []) h.taken_is u.look_is;
      rest = u.rest;
      full = u.full;
      behind = h.behind;
      course_is = h.course_is ∙ ap (λ (l : List (ℕ × Step)). (h.taken ++ l) ++ h.behind) u.course_is ∙ parts h.taken u.look u.rest h.behind;
    }

pub full_alone : {over : Index → Type 0} {d : Desk} {old mid : List Act} {before now : List ℕ} (level : ℕ) (t : TurnsBack over d old mid before now Shared level)
    (a : List (ℕ × Step)) (m n : ℕ) → IsFullHeld Alone level a m n → IsFull level (t.made.course ++ a) m n
full_alone level t a m n h =
    let u = h.full in
    let first = t.made.course in
    let opening : List (ℕ × Step) = first ++ (h.taken ++ u.look) in
    let turned : List Deed = asked (Takes Update Shared) Done ∷ meta_look t.told ∷ asked (Releases Update) Done ∷ [] in
    record {
      told = u.told;
      front = asked (Takes Update Shared) Done ∷ meta_look t.told ∷ asked (Releases Update) Done ∷ asked (Takes Update Alone) Done ∷ meta_look u.told ∷ [];
      opens = alone t.told t.above;
      opening = opening;
      opening_is = deeds_both first (h.taken ++ u.look) turned (asked (Takes Update Alone) Done ∷ meta_look u.told ∷ []) t.made.is.are
          (deeds_both h.taken u.look (asked (Takes Update Alone) Done ∷ []) (meta_look u.told ∷ []) h.taken_is u.look_is);
      rest = u.rest;
      full = u.full;
      behind = h.behind;
      course_is =
          ap (λ (l : List (ℕ × Step)). first ++ l)
          (h.course_is ∙ ap (λ (l : List (ℕ × Step)). (h.taken ++ l) ++ h.behind) u.course_is ∙ parts h.taken u.look u.rest h.behind)
          ∙ sym (append_assoc first ((h.taken ++ u.look) ++ u.rest) h.behind)
          ∙ ap (λ (l : List (ℕ × Step)). l ++ h.behind) (sym (append_assoc first (h.taken ++ u.look) u.rest));
    }

-- the second time
pub stops_alone : {over later : Index → Type 0} {d e : Desk} {old mid new : List Act} {before now : List ℕ} {level : ℕ} {fault : OpFault} → e ≡ d
    → ((base : Index) → over base → later base) → TurnsBack over d old mid before now Shared level
    → StopsBy IsOfInsert (IsFullHeld Alone level) later e mid new fault → StopsBy IsOfInsert (IsFull level) over d old new fault
stops_alone {level = level} same on t s =
    stops_then same on (λ b m n full. full_alone level t b m n full) t.made.does t.made.is.only s

-- ---- the end of an insert

pub gives_over : {more fewer : Index → Type 0} {d e : Desk} {new : List Act} → e ≡ d → ((base : Index) → fewer base → more base) → GivesGate more e new
    → GivesGate fewer d new
gives_over {new = new} same on (inl free) = inl (subst (λ (k : Desk). Holds new k.number Update → ⊥) same free)
gives_over same on (inr keeps) = inr (keeps_over same on keeps)

-- no memory was found before anything was done
pub first_fails : (over : Index → Type 0) (d : Desk) (acts : List Act) (long level : ℕ) (fault : OpFault) (f : StepFault) → fault ≡ op_fault f → f ≡ step.Memory
    → long ≡ d.params.bits → (Holds acts d.number Update → ⊥) → FailsSo over d acts acts long level fault
first_fails over d acts long level fault f is memory fits free =
    subst (FailsSo over d acts acts long level) (sym (is ∙ ap op_fault memory))
    (fits, stops_memory op.Memory refl (does_nothing acts) tt, inl free)

pub fails_so : {over : Index → Type 0} {d : Desk} {old new : List Act} (long level : ℕ) (fault : OpFault) → long ≡ d.params.bits
    → StopsBy IsOfInsert (IsFull level) over d old new fault → GivesGate over d new → FailsSo over d old new long level fault
fails_so long level op.Memory fits s g = (fits, s, g)
fails_so long level (op.Full blocks need) fits s g = (fits, s, g)
fails_so long level (op.LogFull used size) fits s g = (fits, s, g)
fails_so long level (op.Disk count) fits s g = (fits, s, g)
fails_so long level (op.Dimensions got want) fits s g = absurd s.why

pub inserted_so : {over : Index → Type 0} {d : Desk} {old new : List Act} {before : List ℕ} (id : HeapId) (bits : List Bool) (word level : ℕ) (landing : Landing) (inserted : Inserted)
    → before ≡ [] → level ≡ level_of word d.params.m → landing_of inserted ≡ landing
    → InsertsOnce over d old new before inserted.trace.reads (newcomer_in d.params bits level None) id landing → Inserts over d old new id bits word inserted
inserted_so {over} {d} {old} {new} {before} id bits word level landing inserted none level_is landing_is once =
    let o : InsertsOnce over d old new before inserted.trace.reads (newcomer_in d.params bits (level_of word d.params.m) None) id landing =
    subst (λ (l : ℕ). InsertsOnce over d old new before inserted.trace.reads (newcomer_in d.params bits l None) id landing) level_is once in
    let deeds : List Deed = (o.front ++ o.under) ++ asked (Releases Update) Done ∷ [] in
    record {
      outcome = o.outcome;
      landing_is = landing_is ∙ o.landing_is;
      deeds = deeds;
      whole = record { told = o.told; front = o.front; opens = o.opens; under = o.under; course = o.course; deeds_are = refl };
      made = subst (λ (b : List ℕ). Went over d old new b inserted.trace.reads deeds) none o.made;
    }

pub once_over : {more fewer : Index → Type 0} {d : Desk} {old new : List Act} {before now : List ℕ} {n : Newcomer} {id : HeapId} {landing : Landing}
    → ((base : Index) → fewer base → more base) → InsertsOnce more d old new before now n id landing → InsertsOnce fewer d old new before now n id landing
once_over on o = record {
  outcome = o.outcome;
  landing_is = o.landing_is;
  told = o.told;
  front = o.front;
  opens = o.opens;
  under = o.under;
  course = o.course;
  made = went_over on o.made;
}

-- ---- the level of a word

one_at_most : (b : Bool) → cond b 1 0 ≤ 1
one_at_most true = omega arith
one_at_most false = omega arith

levels_few : (word m k : ℕ) → levels_reached word m k ≤ k
levels_few word m zero = omega arith
levels_few word m (suc k) =
    let rest = levels_few word m k in
    let one : (if does_reach word m (suc k) then 1 else 0) ≤ 1 = one_at_most (does_reach word m (suc k)) in
    omega (arith, rest, one)

pub level_low : (word m : ℕ) → level_of word m ≤ most_level m
level_low word m = levels_few word m (most_level m)
