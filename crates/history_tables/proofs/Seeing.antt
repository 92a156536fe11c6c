-- Going over a list of holds from the front.
use Rattle.std.proofs.Common.{◌≡◌, ℕ, ◌+◌, ◌<◌, ◌≤◌, true, false, List, ◌∷◌, length, get_or, drop, Option, Some, None, inl, inr, sym, ap, subst, ◌∙◌}
use Rattle.std.proofs.lemmas.List.{drop_more, drop_all}
use Rattle.vec_history.specs.declared.gate.Gate.{Gate}
use Rattle.vec_history.specs.declared.gate.Hold.{Hold}
use Rattle.history_tables.specs.declared.holders.Holder.{Holder}
use Rattle.history_tables.specs.Telling.{IsHeldAs, is_other}
use Rattle.history_tables.proofs.Entries.{own_is}

-- an entry of another desk or gate says nothing
pub skip_other : (desk : ℕ) (gate : Gate) (h : Holder) (held : List Holder) (o : Option Hold) → is_other desk gate h ≡ true → IsHeldAs desk gate held o
    → IsHeldAs desk gate (h ∷ held) o
skip_other desk gate h held (Some hold) other is = inr is
skip_other desk gate h held None other none = λ hold among. elim among [
  | inl same ↦
      let own : is_other desk gate h ≡ false = own_is desk gate h (ap (λ (x : Holder). x.desk) same) (ap (λ (x : Holder). x.gate) same) in
      let both : true ≡ false = sym other ∙ own in
      absurd cc
  | inr rest ↦ none hold rest
]

-- one step over the entry at a place
pub step_other : (desk : ℕ) (gate : Gate) (held : List Holder) (i : ℕ) (d : Holder) (o : Option Hold) → i < length held
    → is_other desk gate (get_or held i d) ≡ true → IsHeldAs desk gate (drop (i + 1) held) o → IsHeldAs desk gate (drop i held) o
step_other desk gate held i d o inside other is =
    subst (λ (l : List Holder). IsHeldAs desk gate l o) (sym (drop_more held i d inside)) (skip_other desk gate (get_or held i d) (drop (i + 1) held) o other is)

pub none_left : (desk : ℕ) (gate : Gate) (held : List Holder) (i : ℕ) → length held ≤ i → IsHeldAs desk gate (drop i held) None
none_left desk gate held i past =
    subst (λ (l : List Holder). IsHeldAs desk gate l None) (sym (drop_all i held past)) (λ hold among. among)
