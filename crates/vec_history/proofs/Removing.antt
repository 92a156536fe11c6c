-- One last barrier, and what it says of drops.
use Rattle.std.proofs.Common.{◌≡◌, inl, inr, ℕ, ◌+◌, List, sym, ap, subst, ◌∙◌}
use Rattle.vec_history.specs.declared.event.Act.{Act}
use Rattle.vec_history.specs.declared.gate.Gate.{Gate}
use Rattle.vec_history.specs.declared.gate.Gate.TheVariants.{Update}
use Rattle.vec_history.specs.Acts.{NoneAfter}
use Rattle.vec_history.specs.Phases.{IsLastBarrier, IsRemoved}
use Rattle.vec_history.specs.Deciding.{IsActDrop}
use Rattle.list_values.proofs.Parts.{in_order}

pub one_last_barrier : (acts : List Act) (desk : ℕ) (gate : Gate) (b1 b2 k1 k2 : ℕ) → IsLastBarrier acts desk gate b1 k1 → IsLastBarrier acts desk gate b2 k2
    → k1 ≡ k2
one_last_barrier acts desk gate b1 b2 k1 k2 l1 l2 =
    elim (in_order k1 k2) as (λ _. k1 ≡ k2) [
      | inl before ↦ absurd (l1.last k2 before l2.is)
      | inr (inl same) ↦ same
      | inr (inr behind) ↦ absurd (l2.last k1 behind l1.is)
    ]

pub drops_before_removed : (acts : List Act) (desk behind barrier position : ℕ) → IsLastBarrier acts desk Update behind barrier → IsRemoved acts desk position
    → NoneAfter acts barrier IsActDrop
drops_before_removed acts desk behind barrier position last r =
    subst (λ k. NoneAfter acts k IsActDrop) (one_last_barrier acts desk Update r.begun behind r.barrier barrier r.update last) r.drops_before

pub one_removed : (acts : List Act) (desk p q : ℕ) → IsRemoved acts desk p → IsRemoved acts desk q → p ≡ q
one_removed acts desk p q r s =
    r.here ∙ ap (λ k. k + 1) (one_last_barrier acts desk Update r.begun s.begun r.barrier s.barrier r.update s.update) ∙ sym s.here
