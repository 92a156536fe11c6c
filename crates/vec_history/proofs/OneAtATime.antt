-- One hold of a gate by a desk, and one phase.
use Rattle.std.proofs.Common.{◌≡◌, inl, inr, ℕ, List, slice_get, refl, sym, ap, ◌∙◌}
use Rattle.std.proofs.lemmas.Option.{same_Some}
use Rattle.vec_history.specs.declared.event.Event.{Event}
use Rattle.vec_history.specs.declared.event.Event.TheVariants as event
use Rattle.vec_history.specs.declared.event.Act.{Act}
use Rattle.vec_history.specs.declared.gate.Gate.{Gate}
use Rattle.vec_history.specs.declared.gate.Hold.{Hold}
use Rattle.vec_history.specs.declared.stage.Stage.{Stage}
use Rattle.vec_history.specs.Gates.{HoldsSince}
use Rattle.vec_history.specs.Acts.{act_of}
use Rattle.vec_history.specs.Phases.{PhaseSince}
use Rattle.list_values.proofs.Parts.{in_order}

hold_of : Hold → Event → Hold
hold_of default (event.Gate gate hold) = hold
hold_of default _ = default

stage_of : Stage → Event → Stage
stage_of default (event.Phase stage) = stage
stage_of default _ = default

same_hold : (desk : ℕ) (gate : Gate) (h1 h2 : Hold) → act_of desk (event.Gate gate h1) ≡ act_of desk (event.Gate gate h2) → h1 ≡ h2
unfolding hold_of
same_hold desk gate h1 h2 e = ap (λ (a : Act). hold_of h1 a.event) e

same_stage : (d1 d2 : ℕ) (s1 s2 : Stage) → act_of d1 (event.Phase s1) ≡ act_of d2 (event.Phase s2) → s1 ≡ s2
unfolding stage_of
same_stage d1 d2 s1 s2 e = ap (λ (a : Act). stage_of s1 a.event) e

pub one_hold : (acts : List Act) (desk : ℕ) (gate : Gate) (h1 h2 : Hold) (k1 k2 : ℕ) → HoldsSince acts desk gate h1 k1 → HoldsSince acts desk gate h2 k2
    → (k1 ≡ k2) × (h1 ≡ h2)
one_hold acts desk gate h1 h2 k1 k2 a b =
    elim (in_order k1 k2) as (λ _. (k1 ≡ k2) × (h1 ≡ h2)) [
      | inl before ↦ absurd (a.kept k2 _ before b.taken (refl, refl))
      | inr (inl same) ↦ (same, same_hold desk gate h1 h2 (same_Some _ _ (sym a.taken ∙ ap (slice_get acts) same ∙ b.taken)))
      | inr (inr behind) ↦ absurd (b.kept k1 _ behind a.taken (refl, refl))
    ]

pub one_phase : (acts : List Act) (d1 d2 : ℕ) (s1 s2 : Stage) (k1 k2 : ℕ) → PhaseSince acts d1 s1 k1 → PhaseSince acts d2 s2 k2
    → (k1 ≡ k2) × (d1 ≡ d2) × (s1 ≡ s2)
one_phase acts d1 d2 s1 s2 k1 k2 a b =
    elim (in_order k1 k2) as (λ _. (k1 ≡ k2) × (d1 ≡ d2) × (s1 ≡ s2)) [
      | inl before ↦ absurd (a.stands k2 _ before b.begun tt)
      | inr (inl same) ↦
          let acts_same = same_Some _ _ (sym a.begun ∙ ap (slice_get acts) same ∙ b.begun) in
          (same, ap (λ (x : Act). x.desk) acts_same, same_stage d1 d2 s1 s2 acts_same)
      | inr (inr behind) ↦ absurd (b.stands k1 _ behind a.begun tt)
    ]
