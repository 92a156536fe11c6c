-- One holder alone.
use Rattle.std.proofs.Common.{◌≡◌, ◌≢◌, inl, inr, ℕ, ◌<◌, ◌≤◌, List, take, slice_get, refl, sym, ap, subst, ◌∙◌, arith}
use Rattle.std.proofs.lemmas.Option.{same_Some}
use Rattle.vec_history.specs.declared.event.Act.{Act}
use Rattle.vec_history.specs.declared.event.Event.TheVariants as event
use Rattle.vec_history.specs.declared.gate.Gate.{Gate}
use Rattle.vec_history.specs.declared.gate.Hold.{Hold}
use Rattle.vec_history.specs.declared.gate.Hold.TheVariants.{Shared, Alone}
use Rattle.vec_history.specs.Acts.{IsActAt}
use Rattle.vec_history.specs.Gates.{HoldsSince, HoldsAs, AreGatesAllowed}
use Rattle.list_values.proofs.Parts.{in_part, in_whole, in_order}

held_before : (acts : List Act) (desk : ℕ) (gate : Gate) (hold : Hold) (k n : ℕ) → k < n → HoldsSince acts desk gate hold k
    → HoldsSince (take n acts) desk gate hold k
held_before acts desk gate hold k n h s = record {
  taken = in_part n acts k _ h s.taken;
  kept = λ j a after is of_gate. s.kept j a after (in_whole n acts j a is) of_gate;
}

OnlyAlone : Hold → Type 0
OnlyAlone Alone = Unit {0}
OnlyAlone Shared = ⊥

not_shared : Alone ≡ Shared → ⊥
unfolding OnlyAlone
not_shared e = subst OnlyAlone e tt

pub one_alone : (acts : List Act) → AreGatesAllowed acts → (gate : Gate) (hold : Hold) (desk other : ℕ) → other ≢ desk
    → HoldsAs acts desk gate Alone → HoldsAs acts other gate hold → ⊥
one_alone acts allowed gate hold desk other ne d o =
    elim (in_order d.0 o.0) as (λ _. ⊥) [
      | inl before ↦
          not_shared ((allowed o.0 other gate hold o.1.taken).beside desk Alone (λ e. ne (sym e)) (d.0, held_before acts desk gate Alone d.0 o.0 before d.1)).1
      | inr (inl same) ↦ ne (ap (λ (a : Act). a.desk) (same_Some _ _ (sym o.1.taken ∙ ap (slice_get acts) (sym same) ∙ d.1.taken)))
      | inr (inr behind) ↦
          not_shared ((allowed d.0 desk gate Alone d.1.taken).beside other hold ne (o.0, held_before acts other gate hold o.0 d.0 behind o.1)).0
    ]

-- who holds a gate that a desk once took alone took it not before that
pub not_before_alone : (acts : List Act) → AreGatesAllowed acts → (gate : Gate) (hold : Hold) (desk other j k : ℕ) → IsActAt acts k other (event.Gate gate Alone)
    → HoldsSince acts desk gate hold j → k ≤ j
not_before_alone acts allowed gate hold desk other j k taken s =
    elim (in_order j k) as (λ _. k ≤ j) [
      | inl before ↦
          let rule = allowed k other gate Alone taken in
          let held = held_before acts desk gate hold j k before s in
          elim (in_order desk other) as (λ _. k ≤ j) [
            | inl less ↦ absurd (not_shared (rule.beside desk hold (λ e. absurd (omega arith)) (j, held)).0)
            | inr (inl same) ↦ absurd (s.kept k _ before taken (sym same, refl))
            | inr (inr greater) ↦ absurd (not_shared (rule.beside desk hold (λ e. absurd (omega arith)) (j, held)).0)
          ]
      | inr (inl same) ↦ omega arith
      | inr (inr behind) ↦ omega arith
    ]
