-- The places that two values share are at most those of either.
use Rattle.std.specs.Prelude.{ℕ, ◌≡◌, ◌+◌, ◌-◌, ◌<◌, ◌≤◌, ◌==◌, if◌then◌else◌, Bool, true, false, List, [], ◌∷◌, length, refl}
use Rattle.std.proofs.Common.{arith}
use Rattle.std.proofs.lemmas.Bool.{eqb-false}
use Rattle.bit_code.specs.Places.{tally, both, ones}

pub both_first : (a b : List Bool) → both a b ≤ ones a
unfolding tally ones
both_first [] ys = omega arith
both_first (x ∷ xs) [] = omega arith
both_first (false ∷ xs) (false ∷ ys) = omega (arith, both_first xs ys)
both_first (false ∷ xs) (true ∷ ys) = omega (arith, both_first xs ys)
both_first (true ∷ xs) (false ∷ ys) = omega (arith, both_first xs ys)
both_first (true ∷ xs) (true ∷ ys) = omega (arith, both_first xs ys)

pub both_second : (a b : List Bool) → both a b ≤ ones b
unfolding tally ones
both_second [] ys = omega arith
both_second (x ∷ xs) [] = omega arith
both_second (false ∷ xs) (false ∷ ys) = omega (arith, both_second xs ys)
both_second (false ∷ xs) (true ∷ ys) = omega (arith, both_second xs ys)
both_second (true ∷ xs) (false ∷ ys) = omega (arith, both_second xs ys)
both_second (true ∷ xs) (true ∷ ys) = omega (arith, both_second xs ys)

pub ones_long : (a : List Bool) → ones a ≤ length a
unfolding ones
ones_long [] = omega arith
ones_long (false ∷ xs) = omega (arith, ones_long xs)
ones_long (true ∷ xs) = omega (arith, ones_long xs)

-- the denominator of a Jaccard distance is not 0
pub den_positive : (in_a in_b shared : ℕ) → shared ≤ in_a → shared ≤ in_b → 0 < (if shared == 0 then 1 else in_a + in_b - shared)
den_positive in_a in_b shared p q =
    elim (shared == 0) as (λ b. (shared == 0) ≡ b → 0 < (if b then 1 else in_a + in_b - shared)) [
      | true ↦ λ e. omega arith
      | false ↦ λ e. omega (arith, p, q, eqb-false shared 0 e)
    ] refl
