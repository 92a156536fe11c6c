-- What is left of a list from a place on.
use Rattle.std.proofs.Common.{◌≡◌, ◌≤◌, ◌+◌, ℕ, zero, suc, List, [], ◌∷◌, length, drop, slice_get, Some, refl, ap, ◌∙◌, arith}
use Rattle.std.proofs.lemmas.Option.{none-some}

some_same : {A : Type 0} (x y : A) → Some x ≡ Some y → x ≡ y
some_same x y e = cc

left_next : {A : Type 0} (xs : List A) (k : ℕ) (x : A) → slice_get xs k ≡ Some x → drop k xs ≡ x ∷ drop (suc k) xs
left_next [] k x here = absurd (none-some _ here)
left_next (y ∷ xs) zero x here = ap (λ z. z ∷ xs) (some_same y x here)
left_next (y ∷ xs) (suc k) x here = left_next xs k x here

pub left_at : {A : Type 0} (xs : List A) (k : ℕ) (x : A) → slice_get xs k ≡ Some x → drop k xs ≡ x ∷ drop (k + 1) xs
left_at xs k x here =
    let next : suc k ≡ k + 1 = omega arith in
    left_next xs k x here ∙ ap (λ (n : ℕ). x ∷ drop n xs) next

pub left_none : {A : Type 0} (xs : List A) (k : ℕ) → length xs ≤ k → drop k xs ≡ []
left_none [] zero past = refl
left_none [] (suc k) past = refl
left_none (y ∷ xs) zero past = absurd (omega (arith, past))
left_none (y ∷ xs) (suc k) past = left_none xs k (omega (arith, past))
