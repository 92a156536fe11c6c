-- Lists with copies of one thing behind them.
use Rattle.std.proofs.Common.{◌≡◌, ℕ, zero, suc, ◌<◌, ◌≤◌, List, [], ◌∷◌, ◌++◌, length, replicate, Some, refl, sym, arith}
use Rattle.std.specs.Prelude.{slice_get}
use Rattle.byte_fields.proofs.EachField.{some_is}

pub get_front : {X : Type 0} (xs ys : List X) (i : ℕ) → i < length xs → slice_get (xs ++ ys) i ≡ slice_get xs i
get_front [] ys i h = absurd (omega arith)
get_front (x ∷ xs) ys zero h = refl
get_front (x ∷ xs) ys (suc i) h = get_front xs ys i (omega arith)

get_copy : {X : Type 0} (v : X) (n i : ℕ) (x : X) → slice_get (replicate n v) i ≡ Some x → x ≡ v
get_copy v zero i x is = absurd cc
get_copy v (suc n) zero x is = sym (some_is v x is)
get_copy v (suc n) (suc i) x is = get_copy v n i x is

pub get_behind : {X : Type 0} (xs : List X) (v : X) (n i : ℕ) (x : X) → length xs ≤ i → slice_get (xs ++ replicate n v) i ≡ Some x → x ≡ v
get_behind [] v n i x h is = get_copy v n i x is
get_behind (y ∷ ys) v n zero x h is = absurd (omega arith)
get_behind (y ∷ ys) v n (suc i) x h is = get_behind ys v n i x (omega arith) is
