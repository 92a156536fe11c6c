-- Going over the elements of a list in order, or from the last to the first.
use Rattle.std.proofs.Common.{◌≡◌, ℕ, ◌<◌, ◌≤◌, ◌+◌, inl, inr, List, length, slice_get, Some, sym, ap, subst, ◌∙◌, arith}
use Rattle.std.proofs.lemmas.Option.{slice_get_within, same_Some}
use Rattle.list_values.proofs.Parts.{in_order}

-- each of the first i elements is one of these
abbrev pub EachBelow : {X : Type 0} → (X → Type 0) → List X → ℕ → Type 0
EachBelow {X} P xs i = (k : ℕ) (x : X) → k < i → slice_get xs k ≡ Some x → P x

-- each element is one of these
abbrev pub EachOf : {X : Type 0} → (X → Type 0) → List X → Type 0
EachOf {X} P xs = (k : ℕ) (x : X) → slice_get xs k ≡ Some x → P x

pub each_more : {X : Type 0} (P : X → Type 0) (xs : List X) (i : ℕ) (here : X) → slice_get xs i ≡ Some here → EachBelow P xs i → P here → EachBelow P xs (i + 1)
each_more P xs i here at below is k x low there =
    elim (in_order k i) as (λ _. P x) [
      | inl before ↦ below k x before there
      | inr (inl same) ↦ subst P (same_Some _ _ (sym at ∙ ap (slice_get xs) (sym same) ∙ there)) is
      | inr (inr behind) ↦ absurd (omega arith)
    ]

pub each_of_all : {X : Type 0} (P : X → Type 0) (xs : List X) (i : ℕ) → length xs ≤ i → EachBelow P xs i → EachOf P xs
each_of_all P xs i long below k x there = let low : k < length xs = slice_get_within xs k x there in below k x (omega arith) there
