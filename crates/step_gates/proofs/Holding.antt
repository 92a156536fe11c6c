-- What an act, and a call, leave of the gates that a desk holds.
use Rattle.std.proofs.Common.{◌≡◌, inl, inr, ℕ, ◌<◌, List, [], ◌∷◌, ◌++◌, take, length, refl, sym, ap, subst, arith}
use Rattle.std.proofs.lemmas.Option.{slice_get_within}
use Rattle.list_values.proofs.Parts.{in_order, in_part, in_whole}
use Rattle.vec_history.specs.declared.event.Event.{Event}
use Rattle.vec_history.specs.declared.event.Event.TheVariants as event
use Rattle.vec_history.specs.declared.event.Act.{Act}
use Rattle.vec_history.specs.declared.gate.Gate.{Gate}
use Rattle.vec_history.specs.declared.gate.Hold.{Hold}
use Rattle.vec_history.specs.Acts.{act_of, IsActAt}
use Rattle.vec_history.specs.Gates.{IsOfGate, Holds, HoldsSince}
use Rattle.vec_history.proofs.OneMore.{act_last, hold_kept, in_one_more, one_longer}
use Rattle.vec_steps.specs.Calls.{Acts, NoneOf}
use Rattle.vec_steps.proofs.Lasting.{front_is, own_none}

-- ---- one act

-- a gate that the last act took is held since then
pub held_by_last : (acts : List Act) (desk : ℕ) (gate : Gate) (hold : Hold)
    → HoldsSince (acts ++ act_of desk (event.Gate gate hold) ∷ []) desk gate hold (length acts)
held_by_last acts desk gate hold =
    let a : Act = act_of desk (event.Gate gate hold) in
    record {
      taken = act_last acts a;
      kept = λ j other behind is own.
          let inside = slice_get_within (acts ++ a ∷ []) j other is in
          let long = one_longer acts a in absurd (omega arith);
    }

not_both : (desk other : ℕ) (gate given : Gate) (hold : Hold) → act_of desk (event.Ungate given) ≡ act_of other (event.Gate gate hold) → ⊥
not_both desk other gate given hold same =
    let events : event.Ungate given ≡ event.Gate gate hold = ap (λ (a : Act). a.event) same in absurd cc

-- a gate that the last act gave back is not held
pub not_held : (acts : List Act) (desk : ℕ) (gate : Gate) → Holds (acts ++ act_of desk (event.Ungate gate) ∷ []) desk gate → ⊥
not_held acts desk gate h =
    let a : Act = act_of desk (event.Ungate gate) in
    let since = h.1.1 in
    elim (in_one_more acts a h.1.0 (act_of desk (event.Gate gate h.0)) since.taken) as (λ _. ⊥) [
      | inl there ↦ since.kept (length acts) a (slice_get_within acts h.1.0 (act_of desk (event.Gate gate h.0)) there) (act_last acts a) (refl, refl)
      | inr last ↦ not_both desk desk gate gate h.0 last.1
    ]

-- ---- a call without events of the gate

module _ {desk : ℕ} {old new : List Act} {es : List Event} (x : Acts desk old new es) (gate : Gate) (none : NoneOf (IsOfGate gate) es) where
  -- a hold lasts, since the act that took it
  pub hold_lasts : (hold : Hold) (k : ℕ) → HoldsSince old desk gate hold k → HoldsSince new desk gate hold k
  hold_lasts hold k h =
      hold_kept new (length old) desk gate hold k (own_none (IsOfGate gate) desk x none)
      (subst (λ (l : List Act). HoldsSince l desk gate hold k) (sym (front_is x)) h)

  -- what is held after it was held before
  pub held_before : Holds new desk gate → Holds old desk gate
  held_before h =
      let since = h.1.1 in
      let front : take (length old) new ≡ old = front_is x in
      let taken_before : h.1.0 < length old = before h.0 h.1.0 since.taken in (
        h.0,
        (
          h.1.0,
          subst (λ (l : List Act). HoldsSince l desk gate h.0 h.1.0) front (record {
            taken = in_part (length old) new h.1.0 (act_of desk (event.Gate gate h.0)) taken_before since.taken;
            kept = λ j a behind is own. since.kept j a behind (in_whole (length old) new j a is) own;
          }),
        ),
      )
    where
      before : (hold : Hold) (k : ℕ) → IsActAt new k desk (event.Gate gate hold) → k < length old
      before hold k is =
          let later = own_none (IsOfGate gate) desk x none k (act_of desk (event.Gate gate hold)) in
          elim (in_order k (length old)) as (λ _. k < length old) [
            | inl low ↦ low
            | inr (inl same) ↦ absurd (later (omega arith) is (refl, refl))
            | inr (inr high) ↦ absurd (later (omega arith) is (refl, refl))
          ]
