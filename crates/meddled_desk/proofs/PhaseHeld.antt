-- Whoever made the phase that stands holds the gate of vacuums alone.
use Rattle.std.proofs.Common.{◌≡◌, ◌≢◌, inl, inr, ℕ, List, [], ◌∷◌, ◌++◌, sym, subst}
use Rattle.std.proofs.lemmas.Option.{none-some}
use Rattle.vec_history.specs.declared.event.Event.{Event}
use Rattle.vec_history.specs.declared.event.Event.TheVariants.{Put, Join, Link, Relist, Drop, Mark, Entry, Hint, IvfAdd, IvfGrow, IvfDrop, IvfHint, Gate, Ungate, Phase, VacuumEnd, Cancel, Settled, DiskFaulted}
use Rattle.vec_history.specs.declared.event.Act.{Act}
use Rattle.vec_history.specs.declared.gate.Gate.TheVariants as gate
use Rattle.vec_history.specs.declared.gate.Hold.{Hold}
use Rattle.vec_history.specs.declared.gate.Hold.TheVariants.{Alone}
use Rattle.vec_history.specs.declared.stage.Stage.{Stage}
use Rattle.vec_history.specs.declared.stage.Stage.TheVariants as stages
use Rattle.vec_history.specs.Acts.{act_of}
use Rattle.vec_history.specs.Gates.{HoldsAs, IsOfGate}
use Rattle.vec_history.specs.Phases.{IsInPhase}
use Rattle.vec_history.proofs.Alone.{one_alone}
use Rattle.vec_history.proofs.ByActs.{by_acts}
use Rattle.vec_history.proofs.OneMore.{in_one_more, none_before, hold_on}
use Rattle.vec_graph.specs.declared.graph.Graph.{Graph}
use Rattle.vec_graph.specs.Legal.{IsAllowed, IsLegal}
use Rattle.vec_graph.specs.Rules.{IsEventAllowed, IsPhaseAllowed}
use Rattle.vec_graph.proofs.Lasting.{gates_of}

module _ (base : Graph) where
  Held : List Act → Type 0
  Held acts = (desk : ℕ) (stage : Stage) → IsInPhase acts desk stage → HoldsAs acts desk gate.Vacuum Alone

  none_first : Held []
  unfolding Held
  none_first desk stage p = absurd (none-some _ p.1.begun)

  module _ (acts : List Act) (held : Held acts) where
    -- an act that the rules allow is none of the desk's at the gate, while its phase stands
    no_gate : (maker : ℕ) (e : Event) → IsEventAllowed base acts maker e → (desk : ℕ) (stage : Stage) → IsInPhase acts desk stage → maker ≡ desk
        → IsOfGate gate.Vacuum e → ⊥
    unfolding Held
    no_gate maker (Gate g hold) ok desk stage p own of =
        ok.not_held (Alone, subst (λ (d : ℕ). HoldsAs acts d g Alone) (sym own) (subst (λ x. HoldsAs acts desk x Alone) (sym of) (held desk stage p)))
    no_gate maker (Ungate g) ok desk stage p own of = ok.no_phase of (desk, stage, p)
    no_gate maker (Put at list_at version level id bits lists) ok desk stage p own of = of
    no_gate maker (Join at version id) ok desk stage p own of = of
    no_gate maker (Link at list_at version slot to) ok desk stage p own of = of
    no_gate maker (Relist at list_at version lists) ok desk stage p own of = of
    no_gate maker (Drop at version gone) ok desk stage p own of = of
    no_gate maker (Mark at list_at version) ok desk stage p own of = of
    no_gate maker (Entry to level) ok desk stage p own of = of
    no_gate maker (Hint block) ok desk stage p own of = of
    no_gate maker (IvfAdd block id bits) ok desk stage p own of = of
    no_gate maker (IvfGrow list last block id bits) ok desk stage p own of = of
    no_gate maker (IvfDrop block gone) ok desk stage p own of = of
    no_gate maker (IvfHint list block) ok desk stage p own of = of
    no_gate maker (Phase s) ok desk stage p own of = of
    no_gate maker VacuumEnd ok desk stage p own of = of
    no_gate maker (Cancel s) ok desk stage p own of = of
    no_gate maker (Settled upto) ok desk stage p own of = of
    no_gate maker (DiskFaulted count) ok desk stage p own of = of

    -- who may begin a phase holds it
    begins : (desk : ℕ) (stage : Stage) → IsPhaseAllowed base acts desk stage → HoldsAs acts desk gate.Vacuum Alone
    unfolding Held
    begins desk stages.Remove ok = ok.alone
    begins desk stages.Repair ok = held desk stages.Remove (ok.1.begun, ok.1.phase)
    begins desk stages.Mark ok = held desk stages.Repair (ok.begun, ok.phase)

    one : IsLegal base acts → (a : Act) → IsAllowed base acts a → Held (acts ++ a ∷ [])
    unfolding Held
    one legal a ok desk stage p =
        elim (in_one_more acts a p.0 (act_of desk (Phase stage)) p.1.begun) as (λ _. HoldsAs (acts ++ a ∷ []) desk gate.Vacuum Alone) [
          | inl there ↦
              let was : IsInPhase acts desk stage = (p.0, record { begun = there; stands = none_before acts a p.0 _ p.1.stands }) in
              let h = held desk stage was in
              (h.0, hold_on acts a desk gate.Vacuum Alone h.0 (λ own of. no_gate a.desk a.event ok desk stage was own of) h.1)
          | inr last ↦
              let may : IsEventAllowed base acts desk (Phase stage) = subst (λ (b : Act). IsEventAllowed base acts b.desk b.event) last.1 ok in
              let h = begins desk stage may in
              (h.0, hold_on acts a desk gate.Vacuum Alone h.0 (λ own of. subst (λ (b : Act). IsOfGate gate.Vacuum b.event) last.1 of) h.1)
        ]

  pub phase_held : (acts : List Act) → IsLegal base acts → (desk : ℕ) (stage : Stage) → IsInPhase acts desk stage
      → HoldsAs acts desk gate.Vacuum Alone
  unfolding Held
  phase_held acts legal = by_acts (IsAllowed base) Held (λ h l a ok held. one h held l a ok) none_first acts legal

  -- so no other desk holds the gate then
  pub phase_alone : (acts : List Act) → IsLegal base acts → (desk other : ℕ) (stage : Stage) (hold : Hold) → IsInPhase acts desk stage
      → HoldsAs acts other gate.Vacuum hold → other ≢ desk → ⊥
  phase_alone acts legal desk other stage hold p theirs differs =
      one_alone acts (gates_of base acts legal) gate.Vacuum hold desk other differs (phase_held acts legal desk stage p) theirs
