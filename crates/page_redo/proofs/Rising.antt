-- Offsets that rise up to another.
use Rattle.std.proofs.Common.{◌≡◌, ℕ, zero, suc, ◌+◌, ◌<◌, ◌≤◌, Bool, true, false, ◌&&◌, List, [], ◌∷◌, length, get_or, drop, refl, sym, ap, ◌∙◌, arith}
use Rattle.std.specs.Prelude.{nat_lt, nat_le, slice_index}
use Rattle.std.specs.List.{All}
use Rattle.std.specs.List.Sorted.{IsStrictlyIncreasing}
use Rattle.std.proofs.Math.Seq.{drop-cons}
use Rattle.std.proofs.lemmas.Bool.{and_parts, leb-true, ltb-true}
use Rattle.std.proofs.lemmas.List.Elements.{All-nil, All-cons}
use Rattle.page_redo.specs.PageChanges.{rises}

pub record Rises (low high off : ℕ) (offs : List ℕ) : Type 0 where
  pub above : low < off
  pub upto : off ≤ high
  pub rest : rises off high offs ≡ true

first : (low high off : ℕ) (offs : List ℕ) → rises low high (off ∷ offs) ≡ true → Rises low high off offs
first low high off offs is =
    let a = and_parts (nat_lt low off) (nat_le off high && rises off high offs) is in
    let b = and_parts (nat_le off high) (rises off high offs) a.1 in
    record { above = ltb-true low off a.0; upto = leb-true off high b.0; rest = b.1 }

pub rises_all : (low high : ℕ) (offs : List ℕ) → rises low high offs ≡ true → All (λ off. (low < off) × (off ≤ high)) offs
rises_all low high [] is = All-nil (λ off. (low < off) × (off ≤ high))
rises_all low high (off ∷ offs) is =
    let f = first low high off offs is in
    All-cons (λ o. (low < o) × (o ≤ high)) off offs (f.above, f.upto) (λ k d h. let r = rises_all off high offs f.rest k d h in (omega (arith, f.above, r.0), r.1))

steps : (low high : ℕ) (offs : List ℕ) → rises low high offs ≡ true → (k : ℕ) → suc k < length offs → slice_index offs k < slice_index offs (suc k)
steps low high [] is k h = absurd (omega arith)
steps low high (off ∷ []) is k h = absurd (omega arith)
steps low high (off ∷ next ∷ offs) is zero h = (first off high next offs (first low high off (next ∷ offs) is).rest).above
steps low high (off ∷ next ∷ offs) is (suc k) h = steps off high (next ∷ offs) (first low high off (next ∷ offs) is).rest k (omega arith)

pub rises_strictly : (low high : ℕ) (offs : List ℕ) → rises low high offs ≡ true → IsStrictlyIncreasing offs
rises_strictly low high offs is k h =
    let next : k + 1 ≡ suc k = omega arith in
    let less : slice_index offs k < slice_index offs (suc k) = steps low high offs is k (omega arith) in
    omega (arith, less, ap (slice_index offs) next)

and_regroup : (a b c : Bool) → (a && (b && c)) ≡ ((a && b) && c)
and_regroup false b c = refl
and_regroup true b c = refl

-- one offset more
pub rises_more : (low high off i : ℕ) (offs : List ℕ) → i < length offs → off ≡ get_or offs i 0 → rises low high (drop i offs) ≡ ((nat_lt low off && nat_le off high) && rises off high (drop (i + 1) offs))
rises_more low high off i offs h is =
    let next : suc i ≡ i + 1 = omega arith in
    ap (rises low high) (drop-cons offs i 0 h) ∙ ap (λ o. rises low high (o ∷ drop (suc i) offs)) (sym is)
    ∙ and_regroup (nat_lt low off) (nat_le off high) (rises off high (drop (suc i) offs)) ∙ ap (λ n. (nat_lt low off && nat_le off high) && rises off high (drop n offs)) next
