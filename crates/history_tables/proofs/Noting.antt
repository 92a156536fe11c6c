-- What one act more makes of the tables.
use Rattle.std.proofs.Common.{◌≡◌, ◌↔◌, ℕ, ◌+◌, ◌≤◌, arith, Bool, true, false, filter, List, [], ◌∷◌, ◌++◌, length, Option, Some, None, MatchOption, refl, sym, subst, ◌∙◌, inl, inr}
use Rattle.vec_history.specs.declared.event.Event.{Event}
use Rattle.vec_history.specs.declared.event.Event.TheVariants as event
use Rattle.vec_history.specs.declared.event.Act.{Act}
use Rattle.vec_history.specs.declared.gate.Gate.{Gate}
use Rattle.vec_history.specs.declared.gate.Hold.{Hold}
use Rattle.vec_history.specs.declared.stage.Stage.{Stage}
use Rattle.vec_history.specs.Acts.{act_of}
use Rattle.vec_history.specs.Gates.{IsOfGate, Holds, HoldsAs, AgreesWithOthers}
use Rattle.vec_history.specs.Phases.{IsOfVacuum, IsInPhase, IsAPhaseStanding}
use Rattle.vec_history.proofs.OneMore.{hold_on, hold_back, hold_new, hold_ends, phase_on, phase_back, phase_new, not_begun, vacuum_ends, vacuum_cancelled}
use Rattle.vec_history.proofs.OneAtATime.{one_hold}
use Rattle.history_tables.specs.declared.holders.Holder.{Holder}
use Rattle.history_tables.specs.declared.tables.Phase.{Phase}
use Rattle.history_tables.specs.declared.tables.Tables.{Tables}
use Rattle.history_tables.specs.Telling.{IsAmong, AreHolders, AllAgree, IsHeldAs, is_other, IsPhaseOf, settled_by, settled_from, held_by, phase_by, IsEnd, IsToldEnd, ends_owed, one_if_some}
use Rattle.history_tables.proofs.Entries.{among_kept, kept_among, among_more, more_among, last_among, is_own, own_is, agree_each, each_agrees, fewer_without}

-- ---- holds

module _ (held : List Holder) (acts : List Act) (are : AreHolders held acts) where
  pub agree_is : (desk : ℕ) (gate : Gate) (hold : Hold) → AllAgree desk gate hold held ↔ AgreesWithOthers acts desk gate hold
  agree_is desk gate hold = (
    λ all other theirs differs holds. agree_each desk gate hold held all (record { desk = other; gate = gate; hold = theirs })
        (are.all (record { desk = other; gate = gate; hold = theirs }) holds) differs refl,
    λ beside. each_agrees desk gate hold held (λ h is differs same. beside h.desk h.hold differs
        (subst (λ (g : Gate). HoldsAs acts h.desk g h.hold) same (are.told h is))),
  )

  pub held_is : (desk : ℕ) (gate : Gate) (hold : Hold) → IsHeldAs desk gate held (Some hold) → HoldsAs acts desk gate hold
  held_is desk gate hold is = are.told (record { desk = desk; gate = gate; hold = hold }) is

  pub none_held : (desk : ℕ) (gate : Gate) → IsHeldAs desk gate held None → Holds acts desk gate → ⊥
  none_held desk gate none holds = none holds.0 (are.all (record { desk = desk; gate = gate; hold = holds.0 }) holds.1)

  pub held_as : (desk : ℕ) (gate : Gate) (o : Option Hold) → IsHeldAs desk gate held o
      → MatchOption o (Holds acts desk gate → ⊥) (λ hold. HoldsAs acts desk gate hold)
  held_as desk gate None none = none_held desk gate none
  held_as desk gate (Some hold) is = held_is desk gate hold is

  module _ (a : Act) where
    -- an act of no gate
    pub others_stay : ((gate : Gate) → IsOfGate gate a.event → ⊥) → AreHolders held (acts ++ a ∷ [])
    others_stay none = record {
      told = λ h is. let k = are.told h is in (k.0, hold_on acts a h.desk h.gate h.hold k.0 (λ same. none h.gate) k.1);
      all = λ h k. are.all h (k.0, hold_back acts a h.desk h.gate h.hold k.0 (λ same. none h.gate) k.1);
    }

  module _ (desk : ℕ) (gate : Gate) where
    abbrev kept : List Holder
    kept = filter (is_other desk gate) held

    -- the hold of another desk, or of another gate
    not_own : (h : Holder) → is_other desk gate h ≡ true → (e : Event) → ((g : Gate) → IsOfGate g e → gate ≡ g) → desk ≡ h.desk → IsOfGate h.gate e → ⊥
    not_own h other e of same is =
        let own : is_other desk gate h ≡ false = own_is desk gate h (sym same) (sym (of h.gate is)) in
        let both : true ≡ false = sym other ∙ own in
        absurd cc

    kept_on : (e : Event) → ((g : Gate) → IsOfGate g e → gate ≡ g) → (h : Holder) → IsAmong h kept → HoldsAs (acts ++ act_of desk e ∷ []) h.desk h.gate h.hold
    kept_on e of h is =
        let k = kept_among (is_other desk gate) held h is in
        let was = are.told h k.0 in
        (was.0, hold_on acts (act_of desk e) h.desk h.gate h.hold was.0 (not_own h k.1 e of) was.1)

    back_on : (e : Event) → ((g : Gate) → IsOfGate g e → gate ≡ g) → (h : Holder) → is_other desk gate h ≡ true
        → HoldsAs (acts ++ act_of desk e ∷ []) h.desk h.gate h.hold → IsAmong h kept
    back_on e of h other k =
        among_kept (is_other desk gate) held h (are.all h (k.0, hold_back acts (act_of desk e) h.desk h.gate h.hold k.0 (not_own h other e of) k.1)) other

    module _ (hold : Hold) where
      abbrev new : Holder
      new = record { desk = desk; gate = gate; hold = hold }

      abbrev taken_after : List Act
      taken_after = acts ++ act_of desk (event.Gate gate hold) ∷ []

      fresh : HoldsAs taken_after desk gate hold
      fresh = (length acts, hold_new acts (act_of desk (event.Gate gate hold)) desk gate hold refl)

      same_holder : (h : Holder) → h.desk ≡ desk → h.gate ≡ gate → h.hold ≡ hold → new ≡ h
      same_holder h d g o =
          subst (λ n. record { desk = n; gate = gate; hold = hold } ≡ h) d
          (subst (λ (x : Gate). record { desk = h.desk; gate = x; hold = hold } ≡ h) g
          (subst (λ (x : Hold). record { desk = h.desk; gate = h.gate; hold = x } ≡ h) o refl))

      taken_told : (h : Holder) → IsAmong h (kept ++ new ∷ []) → HoldsAs taken_after h.desk h.gate h.hold
      taken_told h is = elim (among_more kept new h is) [
        | inl was ↦ kept_on (event.Gate gate hold) (λ g same. same) h was
        | inr same ↦ subst (λ (x : Holder). HoldsAs taken_after x.desk x.gate x.hold) same fresh
      ]

      taken_all : (h : Holder) → HoldsAs taken_after h.desk h.gate h.hold → IsAmong h (kept ++ new ∷ [])
      taken_all h k = by (is_other desk gate h) refl where
        by : (b : Bool) → is_other desk gate h ≡ b → IsAmong h (kept ++ new ∷ [])
        by true other = more_among kept new h (back_on (event.Gate gate hold) (λ g same. same) h other k)
        by false own =
            let o = is_own desk gate h own in
            let mine : HoldsAs taken_after desk gate h.hold =
            subst (λ (g : Gate). HoldsAs taken_after desk g h.hold) o.1 (subst (λ n. HoldsAs taken_after n h.gate h.hold) o.0 k) in
            let one = one_hold taken_after desk gate h.hold hold mine.0 fresh.0 mine.1 fresh.1 in
            subst (λ (x : Holder). IsAmong x (kept ++ new ∷ [])) (same_holder h o.0 o.1 one.1) (last_among kept new)

      pub is_taken : AreHolders (kept ++ new ∷ []) taken_after
      is_taken = record { told = taken_told; all = taken_all }

    pub is_given : AreHolders kept (acts ++ act_of desk (event.Ungate gate) ∷ [])
    is_given = record {
      told = kept_on (event.Ungate gate) (λ g same. same);
      all = all;
    } where
      all : (h : Holder) → HoldsAs (acts ++ act_of desk (event.Ungate gate) ∷ []) h.desk h.gate h.hold → IsAmong h kept
      all h k = by (is_other desk gate h) refl where
        by : (b : Bool) → is_other desk gate h ≡ b → IsAmong h kept
        by true other = back_on (event.Ungate gate) (λ g same. same) h other k
        by false own =
            let o = is_own desk gate h own in
            absurd (hold_ends acts (act_of desk (event.Ungate gate)) desk gate refl (
              h.hold,
              subst (λ (g : Gate). HoldsAs (acts ++ act_of desk (event.Ungate gate) ∷ []) desk g h.hold) o.1
                  (subst (λ n. HoldsAs (acts ++ act_of desk (event.Ungate gate) ∷ []) n h.gate h.hold) o.0 k),
            ))

-- ---- the phase

pub phase_stays : (phase : Option Phase) (acts : List Act) (a : Act) → (IsOfVacuum a.event → ⊥) → IsPhaseOf phase acts → IsPhaseOf phase (acts ++ a ∷ [])
phase_stays None acts a none is = λ standing. is (standing.0, standing.1, (standing.2.0, phase_back acts a standing.0 standing.1 standing.2.0 (not_begun acts a none standing.0 standing.1) standing.2.1))
phase_stays (Some p) acts a none is = (is.0, phase_on acts a p.desk p.stage is.0 none is.1)

pub phase_begins : (acts : List Act) (desk : ℕ) (stage : Stage) → IsInPhase (acts ++ act_of desk (event.Phase stage) ∷ []) desk stage
phase_begins acts desk stage = (length acts, phase_new acts (act_of desk (event.Phase stage)) desk stage refl)

pub phase_done : (acts : List Act) (desk : ℕ) → IsAPhaseStanding (acts ++ act_of desk event.VacuumEnd ∷ []) → ⊥
phase_done acts desk = vacuum_ends acts (act_of desk event.VacuumEnd) desk refl

pub phase_cancelled : (acts : List Act) (desk : ℕ) (stage : Stage) → IsAPhaseStanding (acts ++ act_of desk (event.Cancel stage) ∷ []) → ⊥
phase_cancelled acts desk stage = vacuum_cancelled acts (act_of desk (event.Cancel stage)) desk stage refl

-- ---- what is settled

pub settled_more : (n : ℕ) (acts : List Act) (a : Act) → settled_from n (acts ++ a ∷ []) ≡ settled_by (settled_from n acts) a.event
settled_more n [] a = refl
settled_more n (x ∷ acts) a = settled_more (settled_by n x.event) acts a

-- ---- every kind of act

pub held_on : (held : List Holder) (acts : List Act) → AreHolders held acts → (desk : ℕ) (e : Event) → AreHolders (held_by held desk e) (acts ++ act_of desk e ∷ [])
held_on held acts are desk (event.Put at list_at version level id bits lists) = others_stay held acts are (act_of desk (event.Put at list_at version level id bits lists)) (λ g is. is)
held_on held acts are desk (event.Join at version id) = others_stay held acts are (act_of desk (event.Join at version id)) (λ g is. is)
held_on held acts are desk (event.Link at list_at version slot to) = others_stay held acts are (act_of desk (event.Link at list_at version slot to)) (λ g is. is)
held_on held acts are desk (event.Relist at list_at version lists) = others_stay held acts are (act_of desk (event.Relist at list_at version lists)) (λ g is. is)
held_on held acts are desk (event.Drop at version gone) = others_stay held acts are (act_of desk (event.Drop at version gone)) (λ g is. is)
held_on held acts are desk (event.Mark at list_at version) = others_stay held acts are (act_of desk (event.Mark at list_at version)) (λ g is. is)
held_on held acts are desk (event.Entry to level) = others_stay held acts are (act_of desk (event.Entry to level)) (λ g is. is)
held_on held acts are desk (event.Hint block) = others_stay held acts are (act_of desk (event.Hint block)) (λ g is. is)
held_on held acts are desk (event.IvfAdd block id bits) = others_stay held acts are (act_of desk (event.IvfAdd block id bits)) (λ g is. is)
held_on held acts are desk (event.IvfGrow list last block id bits) = others_stay held acts are (act_of desk (event.IvfGrow list last block id bits)) (λ g is. is)
held_on held acts are desk (event.IvfDrop block gone) = others_stay held acts are (act_of desk (event.IvfDrop block gone)) (λ g is. is)
held_on held acts are desk (event.IvfHint list block) = others_stay held acts are (act_of desk (event.IvfHint list block)) (λ g is. is)
held_on held acts are desk (event.Gate gate hold) = is_taken held acts are desk gate hold
held_on held acts are desk (event.Ungate gate) = is_given held acts are desk gate
held_on held acts are desk (event.Phase stage) = others_stay held acts are (act_of desk (event.Phase stage)) (λ g is. is)
held_on held acts are desk event.VacuumEnd = others_stay held acts are (act_of desk event.VacuumEnd) (λ g is. is)
held_on held acts are desk (event.Cancel stage) = others_stay held acts are (act_of desk (event.Cancel stage)) (λ g is. is)
held_on held acts are desk (event.Settled upto) = others_stay held acts are (act_of desk (event.Settled upto)) (λ g is. is)
held_on held acts are desk (event.DiskFaulted count) = others_stay held acts are (act_of desk (event.DiskFaulted count)) (λ g is. is)

pub phase_on_act : (phase : Option Phase) (acts : List Act) → IsPhaseOf phase acts → (desk : ℕ) (e : Event) → IsPhaseOf (phase_by phase desk e) (acts ++ act_of desk e ∷ [])
phase_on_act phase acts are desk (event.Put at list_at version level id bits lists) = phase_stays phase acts (act_of desk (event.Put at list_at version level id bits lists)) (λ is. is) are
phase_on_act phase acts are desk (event.Join at version id) = phase_stays phase acts (act_of desk (event.Join at version id)) (λ is. is) are
phase_on_act phase acts are desk (event.Link at list_at version slot to) = phase_stays phase acts (act_of desk (event.Link at list_at version slot to)) (λ is. is) are
phase_on_act phase acts are desk (event.Relist at list_at version lists) = phase_stays phase acts (act_of desk (event.Relist at list_at version lists)) (λ is. is) are
phase_on_act phase acts are desk (event.Drop at version gone) = phase_stays phase acts (act_of desk (event.Drop at version gone)) (λ is. is) are
phase_on_act phase acts are desk (event.Mark at list_at version) = phase_stays phase acts (act_of desk (event.Mark at list_at version)) (λ is. is) are
phase_on_act phase acts are desk (event.Entry to level) = phase_stays phase acts (act_of desk (event.Entry to level)) (λ is. is) are
phase_on_act phase acts are desk (event.Hint block) = phase_stays phase acts (act_of desk (event.Hint block)) (λ is. is) are
phase_on_act phase acts are desk (event.IvfAdd block id bits) = phase_stays phase acts (act_of desk (event.IvfAdd block id bits)) (λ is. is) are
phase_on_act phase acts are desk (event.IvfGrow list last block id bits) = phase_stays phase acts (act_of desk (event.IvfGrow list last block id bits)) (λ is. is) are
phase_on_act phase acts are desk (event.IvfDrop block gone) = phase_stays phase acts (act_of desk (event.IvfDrop block gone)) (λ is. is) are
phase_on_act phase acts are desk (event.IvfHint list block) = phase_stays phase acts (act_of desk (event.IvfHint list block)) (λ is. is) are
phase_on_act phase acts are desk (event.Gate gate hold) = phase_stays phase acts (act_of desk (event.Gate gate hold)) (λ is. is) are
phase_on_act phase acts are desk (event.Ungate gate) = phase_stays phase acts (act_of desk (event.Ungate gate)) (λ is. is) are
phase_on_act phase acts are desk (event.Phase stage) = phase_begins acts desk stage
phase_on_act phase acts are desk event.VacuumEnd = phase_done acts desk
phase_on_act phase acts are desk (event.Cancel stage) = phase_cancelled acts desk stage
phase_on_act phase acts are desk (event.Settled upto) = phase_stays phase acts (act_of desk (event.Settled upto)) (λ is. is) are
phase_on_act phase acts are desk (event.DiskFaulted count) = phase_stays phase acts (act_of desk (event.DiskFaulted count)) (λ is. is) are

-- ---- what is owed

phase_there : (phase : Option Phase) (acts : List Act) → IsPhaseOf phase acts → IsAPhaseStanding acts → one_if_some phase ≡ 1
phase_there None acts none stands = absurd (none stands)
phase_there (Some p) acts is stands = refl

-- an end of what stands leaves one less to end
pub ends_one : (tables : Tables) (desk : ℕ) (e : Event) → IsToldEnd tables desk e
    → length (held_by tables.holders.held.items desk e) + one_if_some (phase_by tables.phase desk e) + 1 ≤ ends_owed tables
ends_one tables desk (event.Ungate gate) told =
    let own : Holder = record { desk = desk; gate = gate; hold = told.0 } in
    let few = fewer_without (is_other desk gate) tables.holders.held.items own told.1 (own_is desk gate own refl refl) in
    omega (arith, few)
ends_one tables desk event.VacuumEnd told = omega (arith, told)
ends_one tables desk (event.Cancel stage) told = omega (arith, told)
ends_one tables desk _ none = absurd none

-- what acts end is told to be an end
pub end_told : (tables : Tables) (acts : List Act) (desk : ℕ) (e : Event) → AreHolders tables.holders.held.items acts → IsPhaseOf tables.phase acts
    → IsEnd acts desk e → IsToldEnd tables desk e
end_told tables acts desk (event.Ungate gate) are is holds =
    (holds.0, are.all (record { desk = desk; gate = gate; hold = holds.0 }) holds.1)
end_told tables acts desk event.VacuumEnd are is stands = phase_there tables.phase acts is stands
end_told tables acts desk (event.Cancel stage) are is stands = phase_there tables.phase acts is stands
end_told tables acts desk _ are is none = absurd none
