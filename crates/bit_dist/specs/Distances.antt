-- Distances of bit values, as exact fractions.
use Rattle.std.specs.Prelude.{ℕ, ◌+◌, ◌*◌, ◌-◌, ◌<◌, ◌==◌, if◌then◌else◌, Bool, List}
use Rattle.std.specs.declared.cmp.Ordering.{Ordering}
use Rattle.std.specs.Ordering.{nat_cmp}
use Rattle.std.proofs.Common.{arith}
use Rattle.bit_code.specs.Places.{unequal, both, ones}
use Rattle.vec_names.specs.declared.params.Ops.{Ops}
use Rattle.vec_names.specs.declared.params.Ops.TheVariants.{Hamming, Jaccard}
use Rattle.bit_dist.specs.Shared.{both_first, both_second, den_positive}
use Rattle.bit_dist.specs.declared.dist.Dist.{Dist}

pub one_positive : 0 < 1
one_positive = omega arith

-- the Hamming distance: the number of unequal places, over 1
abbrev pub hamming_of : List Bool → List Bool → Dist
hamming_of a b = record { num = unequal a b; den = 1; positive = one_positive }

-- The Jaccard distance, unreduced: the places that one value alone has, over those that either has; 1 where they share none, also of two
-- values that have no place at all.
abbrev pub jaccard_num : ℕ → ℕ → ℕ → ℕ
jaccard_num in_a in_b shared = if shared == 0 then 1 else in_a + in_b - 2 * shared

abbrev pub jaccard_den : ℕ → ℕ → ℕ → ℕ
jaccard_den in_a in_b shared = if shared == 0 then 1 else in_a + in_b - shared

abbrev pub jaccard_of : List Bool → List Bool → Dist
jaccard_of a b = record {
  num = jaccard_num (ones a) (ones b) (both a b);
  den = jaccard_den (ones a) (ones b) (both a b);
  positive = den_positive (ones a) (ones b) (both a b) (both_first a b) (both_second a b);
}

abbrev pub distance_of : Ops → List Bool → List Bool → Dist
distance_of Hamming a b = hamming_of a b
distance_of Jaccard a b = jaccard_of a b

-- the order by value: a/b against c/d is a * d against c * b
abbrev pub dist_cmp : Dist → Dist → Ordering
dist_cmp a b = nat_cmp (a.num * b.den) (b.num * a.den)
