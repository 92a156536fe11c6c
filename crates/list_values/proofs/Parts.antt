-- The first acts of a list.
use Rattle.std.proofs.Common.{◌≡◌, ◌⊎◌, ℕ, zero, suc, ◌<◌, List, [], ◌∷◌, take, slice_get, Some, arith}
use Rattle.std.proofs.lemmas.Option.{none-some}

pub in_whole : {X : Type 0} (n : ℕ) (xs : List X) (j : ℕ) (x : X) → slice_get (take n xs) j ≡ Some x → slice_get xs j ≡ Some x
in_whole zero xs j x e = absurd (none-some x e)
in_whole (suc n) [] j x e = e
in_whole (suc n) (y ∷ ys) zero x e = e
in_whole (suc n) (y ∷ ys) (suc j) x e = in_whole n ys j x e

pub in_part : {X : Type 0} (n : ℕ) (xs : List X) (j : ℕ) (x : X) → j < n → slice_get xs j ≡ Some x → slice_get (take n xs) j ≡ Some x
in_part zero xs j x h e = absurd (omega arith)
in_part (suc n) [] j x h e = e
in_part (suc n) (y ∷ ys) zero x h e = e
in_part (suc n) (y ∷ ys) (suc j) x h e = in_part n ys j x (omega arith) e

pub in_order : (i j : ℕ) → (i < j) ⊎ ((i ≡ j) ⊎ (j < i))
in_order i j = grind arith
