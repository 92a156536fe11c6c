-- The order of distances is total.
use Rattle.std.specs.Prelude.{◌≡◌, ℕ, ◌*◌, ◌<◌, refl}
use Rattle.std.proofs.Common.{arith, sym, ap, ◌∙◌}
use Rattle.std.specs.declared.cmp.Ordering.TheVariants.{Less, Equal, Greater}
use Rattle.std.specs.Ordering.{nat_cmp}
use Rattle.std.specs.Cmp.{IsTotalOrder, nat_cmp_total, ranked}
use Rattle.std.proofs.lemmas.Bool.Decides.{nat_tests}
use Rattle.std.proofs.Math.Nat.{lt_of_mul-lt-mul_right, mul-lt-mul_of_pos_right}
use Rattle.bit_dist.specs.declared.dist.Dist.{Dist}
use Rattle.bit_dist.specs.Distances.{dist_cmp}

cmp_less : (a b : ℕ) → a < b → nat_cmp a b ≡ Less
cmp_less a b h = grind (arith, nat_tests)

cmp_greater : (a b : ℕ) → b < a → nat_cmp a b ≡ Greater
cmp_greater a b h = grind (arith, nat_tests)

cmp_equal : (a b : ℕ) → a ≡ b → nat_cmp a b ≡ Equal
cmp_equal a b h = grind (arith, nat_tests)

-- both sides times the same
cmp_scaled : (a b k : ℕ) → 0 < k → nat_cmp (a * k) (b * k) ≡ nat_cmp a b
cmp_scaled a b k p =
    elim (nat_cmp a b) as (λ r. nat_cmp a b ≡ r → nat_cmp (a * k) (b * k) ≡ r) [
      | Less ↦ λ e. cmp_less (a * k) (b * k) (mul-lt-mul_of_pos_right (ranked a b Less (sym e)) p)
      | Equal ↦ λ e. cmp_equal (a * k) (b * k) (ap (λ n. n * k) (ranked a b Equal (sym e)))
      | Greater ↦ λ e. cmp_greater (a * k) (b * k) (mul-lt-mul_of_pos_right (ranked a b Greater (sym e)) p)
    ] refl

mul_swap : (a b c : ℕ) → a * b * c ≡ a * c * b
mul_swap a b c = grind arith

dist_trans : (x y z : Dist) → dist_cmp x y ≡ Less → dist_cmp y z ≡ Less → dist_cmp x z ≡ Less
dist_trans x y z p q =
    let one : x.num * y.den * z.den < y.num * x.den * z.den =
    mul-lt-mul_of_pos_right (ranked (x.num * y.den) (y.num * x.den) Less (sym p)) z.positive in
    let two : y.num * z.den * x.den < z.num * y.den * x.den =
    mul-lt-mul_of_pos_right (ranked (y.num * z.den) (z.num * y.den) Less (sym q)) x.positive in
    let all : x.num * z.den * y.den < z.num * x.den * y.den =
    omega (arith, mul_swap x.num y.den z.den, mul_swap y.num x.den z.den, mul_swap z.num y.den x.den) in
    cmp_less (x.num * z.den) (z.num * x.den) (lt_of_mul-lt-mul_right y.den all)

dist_congr : (x y z : Dist) → dist_cmp x y ≡ Equal → dist_cmp x z ≡ dist_cmp y z
dist_congr x y z p =
    let e : x.num * y.den ≡ y.num * x.den = ranked (x.num * y.den) (y.num * x.den) Equal (sym p) in
    let left : x.num * z.den * y.den ≡ y.num * z.den * x.den =
    mul_swap x.num z.den y.den ∙ ap (λ n. n * z.den) e ∙ mul_swap y.num x.den z.den in
    sym (cmp_scaled (x.num * z.den) (z.num * x.den) y.den y.positive)
    ∙ ap (λ n. nat_cmp n (z.num * x.den * y.den)) left
    ∙ ap (λ n. nat_cmp (y.num * z.den * x.den) n) (mul_swap z.num x.den y.den)
    ∙ cmp_scaled (y.num * z.den) (z.num * y.den) x.den x.positive

-- fractions by value, since no denominator is 0
pub dist_cmp_total : IsTotalOrder dist_cmp
dist_cmp_total = record {
  antisymm = λ x y. nat_cmp_total.antisymm (x.num * y.den) (y.num * x.den);
  trans = dist_trans;
  congr = dist_congr;
}
