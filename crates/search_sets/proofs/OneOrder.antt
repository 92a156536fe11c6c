-- Of elements that tie only where they are the same, each arrangement has the same list in order.
use Rattle.std.proofs.Common.{◌≡◌, refl, sym, ap, ◌∙◌, ℕ, zero, suc, List, [], ◌∷◌, arith, filter}
use Rattle.std.specs.Prelude.{Bool, true, false, not, ◌&&◌, cond}
use Rattle.std.specs.declared.cmp.Ordering.{Ordering}
use Rattle.std.specs.declared.cmp.Ordering.TheVariants.{Less, Equal, Greater}
use Rattle.std.specs.Ordering.{is_lt, ordering_reverse}
use Rattle.std.specs.Cmp.{IsStrictWeakOrder, IsTotalOrder}
use Rattle.std.specs.FinMap.{IsAntisymmetric}
use Rattle.std.specs.List.{sum_by, AllByRecursion}
use Rattle.std.specs.List.Sorted.{IsPermutation, ties}
use Rattle.std.proofs.lemmas.List.Sums.{sum_by-cons}
use Rattle.std.proofs.lemmas.List.Sorted.{ranks_by, sum_by-IsPermutation, IsPermutation-trans}
use Rattle.list_values.specs.Ranking.{placed, ranked}
use Rattle.list_values.proofs.Ranks.{ranked_is}
use Rattle.list_values.proofs.RankedOrder.{sorted_ranked, ranked_permutes}

-- before all of which none is before it
pub placed_first : {X : Type 0} (lt : X → X → Bool) (x : X) (ys : List X) → AllByRecursion (λ y. lt y x ≡ false) ys → placed lt x ys ≡ x ∷ ys
placed_first lt x [] none = refl
placed_first {X} lt x (y ∷ ys) none = ap (λ (b : Bool). cond b (y ∷ placed lt x ys) (x ∷ y ∷ ys)) none.0

abbrev one_if : Bool → ℕ
one_if true = 1
one_if false = 0

abbrev copies : {X : Type 0} → ℕ → X → List X
copies zero x = []
copies (suc n) x = x ∷ copies n x

module _ {X : Type 0} {R : X → X → Ordering} (total : IsTotalOrder R) (exact : IsAntisymmetric R) where
  abbrev before : X → X → Bool
  before x y = is_lt (R x y)

  pub order_before : IsStrictWeakOrder before
  order_before = ranks_by total (λ x. x)

  tied_are_same : (z x : X) → ties before z x ≡ true → z ≡ x
  tied_are_same z x h = by_case (R z x) (R x z) refl (total.antisymm z x) h
    where
      by_case : (a b : Ordering) → R z x ≡ a → a ≡ ordering_reverse b → (not (is_lt a) && not (is_lt b)) ≡ true → z ≡ x
      by_case Equal b e r h = exact z x e
      by_case Less b e r h = absurd (cc)
      by_case Greater Less e r h = absurd (cc)
      by_case Greater Equal e r h = absurd (cc)
      by_case Greater Greater e r h = absurd (cc)

  abbrev ties_count : X → X → ℕ
  ties_count z x = one_if (ties before z x)

  ties_copies : (z : X) (xs : List X) → filter (ties before z) xs ≡ copies (sum_by (ties_count z) xs) z
  ties_copies z [] = refl
  ties_copies z (x ∷ xs) = by_test (ties before z x) refl (ties_copies z xs)
    where
      by_test : (b : Bool) → ties before z x ≡ b → filter (ties before z) xs ≡ copies (sum_by (ties_count z) xs) z
          → filter (ties before z) (x ∷ xs) ≡ copies (sum_by (ties_count z) (x ∷ xs)) z
      by_test true is further =
          let one : sum_by (ties_count z) (x ∷ xs) ≡ suc (sum_by (ties_count z) xs) =
          omega (arith, sum_by-cons (ties_count z) x xs, ap one_if is) in
          ap (λ (b : Bool). cond b (x ∷ filter (ties before z) xs) (filter (ties before z) xs)) is
          ∙ ap (λ l. x ∷ l) further ∙ ap (λ y. y ∷ copies (sum_by (ties_count z) xs) z) (sym (tied_are_same z x is)) ∙ sym (ap (λ n. copies n z) one)
      by_test false is further =
          let none : sum_by (ties_count z) (x ∷ xs) ≡ sum_by (ties_count z) xs =
          omega (arith, sum_by-cons (ties_count z) x xs, ap one_if is) in
          ap (λ (b : Bool). cond b (x ∷ filter (ties before z) xs) (filter (ties before z) xs)) is
          ∙ further ∙ sym (ap (λ n. copies n z) none)

  pub ranked_same : (xs ys : List X) → IsPermutation xs ys → ranked before ys ≡ ranked before xs
  ranked_same xs ys p =
      ranked_is before order_before xs (ranked before ys) (sorted_ranked before order_before ys)
      (λ z. ties_copies z (ranked before ys) ∙ ap (λ n. copies n z) (sum_by-IsPermutation (ties_count z) xs (ranked before ys) (IsPermutation-trans xs ys (ranked before ys) p (ranked_permutes before ys))) ∙ sym (ties_copies z xs))
