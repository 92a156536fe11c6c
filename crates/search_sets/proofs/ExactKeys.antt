-- Keys that tie are the same.
use Rattle.std.specs.Prelude.{◌≡◌, ℕ, ◌*◌, ◌/◌, ◌<◌}
use Rattle.std.proofs.Common.{refl, sym, ap, ◌∙◌}
use Rattle.std.specs.declared.cmp.Ordering.{Ordering}
use Rattle.std.specs.declared.cmp.Ordering.TheVariants.{Less, Equal, Greater}
use Rattle.std.specs.Ordering.{nat_cmp, ordering_then}
use Rattle.std.specs.Cmp.{ranked as nat_ranked}
use Rattle.std.specs.FinMap.{IsAntisymmetric}
use Rattle.std.specs.Coded.{le_prop}
use Rattle.std.proofs.Props.{props}
use Rattle.std.proofs.Math.Nat.{mul-div_cancel}
use mathlib.Core.HLevel.{Σ_prop_path}
use Rattle.vec_names.specs.Order.{tid_cmp, tid_cmp_exact}
use Rattle.bit_dist.specs.declared.dist.Dist.{Dist}
use Rattle.bit_dist.specs.Distances.{dist_cmp}
use Rattle.search_sets.specs.Keys.{alike_cmp, key_cmp}

then_first : (a b : Ordering) → ordering_then a b ≡ Equal → a ≡ Equal
then_first Equal b h = refl
then_first Less b h = h
then_first Greater b h = h

then_second : (a b : Ordering) → ordering_then a b ≡ Equal → b ≡ Equal
then_second Equal b h = h
then_second Less b h = absurd (cc)
then_second Greater b h = absurd (cc)

same_dist : (a b : Dist) → a.num ≡ b.num → a.den ≡ b.den → a ≡ b
same_dist a b e f =
    let P : ℕ × ℕ → Type 0 = λ p. 0 < p.1 in
    let numbers : ◌≡◌ {A = ℕ × ℕ} (a.num, a.den) (b.num, b.den) = λ i. (e i, f i) in
    let whole : ◌≡◌ {A = (p : ℕ × ℕ) × P p} ((a.num, a.den), a.positive) ((b.num, b.den), b.positive) =
    Σ_prop_path (λ p. hlevel (props, le_prop)) numbers in
    λ i. record { num = (whole i).0.0; den = (whole i).0.1; positive = (whole i).1 }

same_num : (m n d : ℕ) → 0 < d → m * d ≡ n * d → m ≡ n
same_num m n d p e = sym (mul-div_cancel m p) ∙ ap (λ k. k / d) e ∙ mul-div_cancel n p

dist_exact : (a b : Dist) → dist_cmp a b ≡ Equal → nat_cmp a.den b.den ≡ Equal → a ≡ b
dist_exact a b t d =
    let dens : a.den ≡ b.den = nat_ranked a.den b.den Equal (sym d) in
    let across : a.num * b.den ≡ b.num * a.den = nat_ranked (a.num * b.den) (b.num * a.den) Equal (sym t) in
    let nums : a.num ≡ b.num = same_num a.num b.num b.den b.positive (across ∙ ap (λ n. b.num * n) dens) in
    same_dist a b nums dens

pub key_cmp_exact : IsAntisymmetric key_cmp
key_cmp_exact a b h =
    let alike : alike_cmp a b ≡ Equal = then_second (dist_cmp a.dist b.dist) _ h in
    let more : ordering_then (nat_cmp a.index b.index) (nat_cmp a.dist.den b.dist.den) ≡ Equal = then_second (tid_cmp a.at b.at) _ alike in
    let dist : a.dist ≡ b.dist =
    dist_exact a.dist b.dist (then_first (dist_cmp a.dist b.dist) _ h) (then_second (nat_cmp a.index b.index) _ more) in
    let at : a.at ≡ b.at = tid_cmp_exact a.at b.at (then_first (tid_cmp a.at b.at) _ alike) in
    let index : a.index ≡ b.index = nat_ranked a.index b.index Equal (sym (then_first (nat_cmp a.index b.index) _ more)) in
    λ i. record { dist = dist i; at = at i; index = index i }
