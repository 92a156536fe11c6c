-- Another desk's end of a vacuum, and of a hold.
use Rattle.std.proofs.Common.{◌≡◌, ◌≢◌, ◌⊎◌, inl, inr, ℕ, ◌+◌, ◌≤◌, true, false, true≢false, List, [], ◌∷◌, ◌++◌, map, take, length, Some, Result, Ok, Err, OnOk, OnErr, IfErr, refl, sym, ap, subst, ◌∙◌, arith}
use Rattle.std.proofs.lemmas.List.{length-append}
use Rattle.std.proofs.lemmas.Option.{slice_get_within}
use Rattle.list_values.proofs.Parts.{in_order}
use Rattle.vec_names.specs.declared.params.Params.{Params}
use Rattle.vec_history.specs.declared.event.Event.{Event}
use Rattle.vec_history.specs.declared.event.Event.TheVariants as event
use Rattle.vec_history.specs.declared.event.Act.{Act}
use Rattle.vec_history.specs.declared.gate.Gate.{Gate}
use Rattle.vec_history.specs.declared.gate.Hold.{Hold}
use Rattle.vec_history.specs.declared.stage.Stage.{Stage}
use Rattle.vec_history.specs.Acts.{act_of}
use Rattle.vec_history.specs.declared.gate.Gate.TheVariants as gates
use Rattle.vec_history.specs.Gates.{HoldsSince, Holds, AgreesWithOthers}
use Rattle.vec_history.specs.Phases.{IsInPhase, IsAPhaseStanding}
use Rattle.vec_history.specs.Settling.{is_lasting}
use Rattle.vec_history.proofs.OneMore.{at_back, none_before, hold_ends, vacuum_ends, vacuum_cancelled}
use Rattle.vec_graph.specs.declared.graph.Graph.{Graph}
use Rattle.graph_search.specs.Deeds.{asked, Releases}
use Rattle.graph_search.specs.Deeds as deed
use Rattle.vec_steps.specs.declared.ask.Ask.{Ask}
use Rattle.vec_steps.specs.declared.ask.Ask.TheVariants as ask
use Rattle.vec_steps.specs.declared.told.Told.{Told}
use Rattle.vec_steps.specs.declared.fault.StepFault.{StepFault}
use Rattle.vec_steps.specs.declared.fault.StepFault.TheVariants as fault
use Rattle.vec_steps.specs.Index.{Index, OfNodes}
use Rattle.vec_steps.specs.Doing.{Step, did, cleaned, Cleaned, Ends, Cleared, Left, Outdated, Ended, Cancelled, SaysCleaned, step_events}
use Rattle.vec_steps.specs.Telling.{step_of}
use Rattle.vec_steps.specs.Desks.{Desk, WantsMemory}
use Rattle.vec_steps.specs.Calls.{Stepped, Failed, IsLogFull, made_by}
use Rattle.vec_board.specs.declared.board_core.Core.{Core}
use Rattle.vec_board.specs.Standing.{acts_of}
use Rattle.vec_board.specs.Acting.{IsAsBefore}
use Rattle.vec_board.specs.Serving.{IsBusy, MakesFor, MakesJust}
use Rattle.vec_graph.specs.Legal.{IsLegal}
use Rattle.meddled_desk.specs.Meddling.{AreHoldsOf, AreTakenFrom}
use Rattle.meddled_desk.proofs.PhaseHeld.{phase_alone}

-- ---- holds go on being what they were

abbrev IsTaking : Event → Type 0
IsTaking (event.Gate gate hold) = Unit {0}
IsTaking _ = ⊥

taken_gate : (a : Act) (desk : ℕ) (gate : Gate) (hold : Hold) → (IsTaking a.event → ⊥) → a ≡ act_of desk (event.Gate gate hold) → ⊥
taken_gate a desk gate hold none same = none (subst (λ (b : Act). IsTaking b.event) (sym same) tt)

-- an act that takes no gate makes no hold
holds_of : (old : List Act) (a : Act) → (IsTaking a.event → ⊥) → AreHoldsOf old (old ++ a ∷ [])
holds_of old a none desk k gate hold s = record {
  taken = at_back old a k desk (event.Gate gate hold) (taken_gate a desk gate hold none) s.taken;
  kept = none_before old a k _ s.kept;
}

pub holds_still : (old new : List Act) → new ≡ old → AreHoldsOf old new
holds_still old new is desk k gate hold s = subst (λ (l : List Act). HoldsSince l desk gate hold k) is s

holds_more : (old new : List Act) (a : Act) → (IsTaking a.event → ⊥) → new ≡ old ++ a ∷ [] → AreHoldsOf old new
holds_more old new a none is desk k gate hold s =
    holds_of old a none desk k gate hold (subst (λ (l : List Act). HoldsSince l desk gate hold k) is s)

pub holds_then : (a b c : List Act) → AreHoldsOf a b → AreHoldsOf b c → AreHoldsOf a c
holds_then a b c first second desk k gate hold s = first desk k gate hold (second desk k gate hold s)

module _ (old new : Core) (desk : ℕ) where
  end_holds : (ending : Cleaned) → MakesJust old new desk (made_by old.params (Some (cleaned Ends ending))) → AreHoldsOf (acts_of old) (acts_of new)
  end_holds Cleared is = holds_still (acts_of old) (acts_of new) is.acts
  end_holds (Left ids) is = holds_still (acts_of old) (acts_of new) is.acts
  end_holds Outdated is = holds_still (acts_of old) (acts_of new) is.acts
  end_holds Ended is = holds_more (acts_of old) (acts_of new) (act_of desk event.VacuumEnd) (λ never. never) is.1.acts
  end_holds (Cancelled stage) is = holds_more (acts_of old) (acts_of new) (act_of desk (event.Cancel stage)) (λ never. never) is.1.acts

  module _ (t : Told) where
    pub end_keeps : (r : Result (Unit {0}) StepFault)
        → OnOk r ((IsBusy ask.EndVacuum t → ⊥) → (ending : Cleaned) × MakesFor old new desk ask.EndVacuum (made_by old.params (step_of ask.EndVacuum t ending)))
        → OnErr r (IsAsBefore old new) → AreHoldsOf (acts_of old) (acts_of new)
    end_keeps (Ok done) made kept = let m = made (λ never. never) in end_holds m.0 m.1
    end_keeps (Err f) made kept = holds_still (acts_of old) (acts_of new) kept.acts

    pub release_keeps : (gate : Gate) (r : Result (Unit {0}) StepFault)
        → OnOk r ((IsBusy (ask.Release gate) t → ⊥) → (ending : Cleaned)
        × MakesFor old new desk (ask.Release gate) (made_by old.params (step_of (ask.Release gate) t ending)))
        → OnErr r (IsAsBefore old new) → AreHoldsOf (acts_of old) (acts_of new)
    release_keeps gate (Ok done) made kept =
        let m = made (λ never. never) in
        holds_more (acts_of old) (acts_of new) (act_of desk (event.Ungate gate)) (λ never. never) m.1.1.acts
    release_keeps gate (Err f) made kept = holds_still (acts_of old) (acts_of new) kept.acts

-- ---- none of these asks is refused over a base

not_more : {X : Type 0} (xs ys : List X) (x : X) → (xs ++ ys) ++ x ∷ [] ≡ xs → ⊥
not_more xs ys x is =
    let long = ap (λ l. length l) is in
    let one = length-append (xs ++ ys) (x ∷ []) in
    let two = length-append xs ys in
    absurd (omega (arith, long, one, two))

passing : (e f : Event) → is_lasting e ≡ false → e ∷ [] ≡ f ∷ [] → is_lasting f ≡ true → ⊥
passing e f not_lasting same lasts =
    let one : e ≡ f = cc in
    true≢false (sym lasts ∙ sym (ap is_lasting one) ∙ not_lasting)

no_event : (f : Event) → [] ≡ f ∷ [] → ⊥
no_event f same = cc

-- what does not want memory, and makes no lasting event, is not refused
module _ (over : Index → Type 0) (d : Desk) (old new : List Act) (a : Ask) (base : Index) (is : over base) (spare : ℕ)
    (wants : WantsMemory spare a → ⊥)
    (fleeting : (t : Told) (ending : Cleaned) (step : Step) (e : Event) → step_of a t ending ≡ Some step → step_events d.params step ≡ e ∷ [] → is_lasting e ≡ true → ⊥)
    (same : new ≡ old) where
  pub not_refused : (f : StepFault) → Failed over d old new a f → (f ≡ fault.Memory → WantsMemory spare a) → ⊥
  not_refused fault.Memory failed memory = wants (memory refl)
  not_refused (fault.LogFull used size) failed memory =
      let full : IsLogFull d base new a used size = failed.cause base is in
      fleeting full.told full.ending full.step full.event full.would full.makes full.lasting
  not_refused (fault.Disk count) failed memory =
      not_more old failed.came.others (act_of d.number (event.DiskFaulted count)) (sym failed.came.all ∙ same)

fleeting_end : (p : Params) (t : Told) (ending : Cleaned) (step : Step) (e : Event) → step_of ask.EndVacuum t ending ≡ Some step → step_events p step ≡ e ∷ []
    → is_lasting e ≡ true → ⊥
fleeting_end p t ending step e would makes lasts =
    let one : cleaned Ends ending ≡ step = cc in
    by ending (ap (step_events p) one ∙ makes) where
      by : (c : Cleaned) → step_events p (cleaned Ends c) ≡ e ∷ [] → ⊥
      by Cleared is = no_event e is
      by (Left ids) is = no_event e is
      by Outdated is = no_event e is
      by Ended is = passing event.VacuumEnd e refl is lasts
      by (Cancelled stage) is = passing (event.Cancel stage) e refl is lasts

fleeting_release : (p : Params) (gate : Gate) (t : Told) (ending : Cleaned) (step : Step) (e : Event) → step_of (ask.Release gate) t ending ≡ Some step
    → step_events p step ≡ e ∷ [] → is_lasting e ≡ true → ⊥
fleeting_release p gate t ending step e would makes lasts =
    let one : did (asked (Releases gate) deed.Done) ≡ step = cc in
    passing (event.Ungate gate) e refl (ap (step_events p) one ∙ makes) lasts

-- an ask that was refused made no act
pub kept_acts : (r : Result (Unit {0}) StepFault) (old new : Core) → OnErr r (IsAsBefore old new) → OnErr r (acts_of new ≡ acts_of old)
kept_acts (Ok done) old new kept = tt
kept_acts (Err f) old new kept = kept.acts

-- ---- holds of one gate, by the acts that took them

same_or_other : (a b : ℕ) → (a ≡ b) ⊎ (a ≢ b)
same_or_other a b =
    elim (in_order a b) as (λ _. (a ≡ b) ⊎ (a ≢ b)) [
      | inl less ↦ inr (λ e. absurd (omega arith))
      | inr (inl same) ↦ inl same
      | inr (inr more) ↦ inr (λ e. absurd (omega arith))
    ]

-- who holds the gate of vacuums, and has no phase, leaves no phase standing
pub not_its_phase : (base : Graph) (acts : List Act) → IsLegal base acts → (desk k : ℕ) (gate : Gate) (hold : Hold) → HoldsSince acts desk gate hold k
    → ((stage : Stage) → IsInPhase acts desk stage → ⊥) → gate ≡ gates.Vacuum → IsAPhaseStanding acts → ⊥
not_its_phase base acts legal desk k gate hold since none is (maker, stage, phase) =
    elim (same_or_other desk maker) as (λ _. ⊥) [
      | inl same ↦ none stage (subst (λ (d : ℕ). IsInPhase acts d stage) (sym same) phase)
      | inr differs ↦ phase_alone base acts legal maker desk stage hold phase (k, subst (λ x. HoldsSince acts desk x hold k) is since) differs
    ]

pub taken_none : (acts : List Act) (gate : Gate) (n : ℕ) → ((desk : ℕ) (hold : Hold) → desk ≢ 0 → HoldsSince acts desk gate hold n → ⊥)
    → AreTakenFrom acts gate n → AreTakenFrom acts gate (n + 1)
taken_none acts gate n none from desk k hold other s =
    let low : n ≤ k = from desk k hold other s in
    elim (same_or_other k n) as (λ _. n + 1 ≤ k) [
      | inl same ↦ absurd (none desk hold other (subst (HoldsSince acts desk gate hold) same s))
      | inr differs ↦ next n k low (λ e. differs (sym e))
    ] where
      next : (n k : ℕ) → n ≤ k → n ≢ k → n + 1 ≤ k
      next n k low differs = elim (in_order n k) as (λ _. n + 1 ≤ k) [
        | inl less ↦ omega arith
        | inr (inl same) ↦ absurd (differs same)
        | inr (inr more) ↦ absurd (omega arith)
      ]

-- the one who took it by this act holds it no more
pub taken_next : (old new : List Act) (gate : Gate) (n desk : ℕ) → ((other : ℕ) (hold : Hold) → HoldsSince old other gate hold n → other ≡ desk)
    → AreHoldsOf old new → (Holds new desk gate → ⊥) → AreTakenFrom old gate n → AreTakenFrom new gate (n + 1)
taken_next old new gate n desk only were ended from =
    taken_none new gate n
    (λ other hold differs s. ended (hold, (n, subst (λ (d : ℕ). HoldsSince new d gate hold n) (only other hold (were other n gate hold s)) s)))
    (λ other k hold differs s. from other k hold differs (were other k gate hold s))

-- where each hold of others was taken behind all acts, there is none
pub taken_all : (old new : List Act) (gate : Gate) (hold : Hold) → AreHoldsOf old new → AreTakenFrom new gate (length old) → AgreesWithOthers new 0 gate hold
taken_all old new gate hold were from other theirs differs (k, s) =
    let low : length old ≤ k = from other k theirs differs s in
    let inside = slice_get_within old k _ (were other k gate theirs s).taken in
    absurd (omega arith)

-- ---- what they end

module _ (over : Index → Type 0) (d : Desk) (old new : List Act) (g : Graph) (is : over (OfNodes g)) (spare : ℕ) (t : Told) (left : Ask) where
  -- by how a vacuum ended, no phase stands
  ended_by : (before : List Act) (ending : Cleaned) → SaysCleaned g before d.number Ends ending → (others : List Act)
      → new ≡ (old ++ others) ++ map (act_of d.number) (made_by d.params (Some (cleaned Ends ending))) → IsAPhaseStanding new → ⊥
  ended_by before Cleared says others all phase = says
  ended_by before (Left ids) says others all phase = says
  ended_by before Outdated says others all phase = says
  ended_by before Ended says others all phase =
      vacuum_ends (old ++ others) (act_of d.number event.VacuumEnd) d.number refl (subst IsAPhaseStanding all phase)
  ended_by before (Cancelled stage) says others all phase =
      vacuum_cancelled (old ++ others) (act_of d.number (event.Cancel stage)) d.number stage refl (subst IsAPhaseStanding all phase)

  pub end_ends : (r : Result (Unit {0}) StepFault) → OnOk r ((IsBusy ask.EndVacuum t → ⊥) → Stepped over d old new ask.EndVacuum left t)
      → IfErr r (Failed over d old new ask.EndVacuum) → IfErr r (λ f. f ≡ fault.Memory → WantsMemory spare ask.EndVacuum) → OnErr r (new ≡ old)
      → IsAPhaseStanding new → ⊥
  end_ends (Ok done) ok err wants kept phase =
      let s = ok (λ never. never) in
      ended_by (take t.at new) s.ending (s.says (OfNodes g) is) s.came.others s.came.all phase
  end_ends (Err f) ok err wants kept phase =
      not_refused over d old new ask.EndVacuum (OfNodes g) is spare (λ never. never) (fleeting_end d.params) kept f err wants

  pub release_ends : (gate : Gate) (r : Result (Unit {0}) StepFault)
      → OnOk r ((IsBusy (ask.Release gate) t → ⊥) → Stepped over d old new (ask.Release gate) left t)
      → IfErr r (Failed over d old new (ask.Release gate)) → IfErr r (λ f. f ≡ fault.Memory → WantsMemory spare (ask.Release gate))
      → OnErr r (new ≡ old) → Holds new d.number gate → ⊥
  release_ends gate (Ok done) ok err wants kept holds =
      let s = ok (λ never. never) in
      hold_ends (old ++ s.came.others) (act_of d.number (event.Ungate gate)) d.number gate refl
      (subst (λ (l : List Act). Holds l d.number gate) s.came.all holds)
  release_ends gate (Err f) ok err wants kept holds =
      not_refused over d old new (ask.Release gate) (OfNodes g) is spare (λ never. never) (fleeting_release d.params gate) kept f err wants
