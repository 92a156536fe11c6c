-- The front of a list, with one element more.
use Rattle.std.proofs.Common.{◌≡◌, ℕ, zero, suc, ◌+◌, ◌<◌, List, [], ◌∷◌, ◌++◌, length, get_or, take, drop, sym, ap, ◌∙◌, arith}

pub take_more : {X : Type 0} (xs : List X) (i : ℕ) (x : X) → i < length xs → x ≡ get_or xs i x → take (i + 1) xs ≡ take i xs ++ x ∷ []
take_more [] i x within is = absurd (omega (arith, within))
take_more {X} (y ∷ ys) zero x within is = ap (λ (z : X). z ∷ []) (sym is)
take_more {X} (y ∷ ys) (suc i) x within is =
    ap (λ n. take n (y ∷ ys)) (next i) ∙ ap (λ (l : List X). y ∷ l) (take_more ys i x (omega (arith, within)) is)
  where
    next : (i : ℕ) → suc i + 1 ≡ suc (i + 1)
    next i = omega arith

pub drop_next : {X : Type 0} (xs : List X) (i : ℕ) (x : X) → i < length xs → x ≡ get_or xs i x → drop i xs ≡ x ∷ drop (i + 1) xs
drop_next [] i x within is = absurd (omega (arith, within))
drop_next {X} (y ∷ ys) zero x within is = ap (λ (z : X). z ∷ ys) (sym is)
drop_next {X} (y ∷ ys) (suc i) x within is =
    drop_next ys i x (omega (arith, within)) is ∙ ap (λ (l : List X). x ∷ l) (ap (λ n. drop n (y ∷ ys)) (sym (next i)))
  where
    next : (i : ℕ) → suc i + 1 ≡ suc (i + 1)
    next i = omega arith
