-- The header of an area by its first bytes.
use Rattle.std.proofs.Common.{◌≡◌, ℕ, ◌+◌, ◌-◌, ◌≤◌, true, ◌&&◌, nat_le, ◌==◌, List, length, take, drop, slice_index, sym, ap, ◌∙◌, arith}
use Rattle.std.specs.Int.{w32, w64, from_le_bytes}
use Rattle.std.specs.List.{list_all}
use Rattle.std.proofs.lemmas.Bool.Decides.{nat_tests}
use Rattle.std.proofs.lemmas.List.{drop-take, take-take, get_or-take, length-take-le}
use Rattle.page_log.specs.Epoch.{is_open, named_head, bad_size, word_at, long_at, has_zeros}
use Rattle.page_log.specs.Opening.{front_at}
use Rattle.page_log.specs.declared.head.Head.{Head}

part : (n k : ℕ) (area : List ℕ) → n + k ≤ 40 → take k (drop n (take 40 area)) ≡ take k (drop n area)
part n k area within =
    let whole : 40 ≡ n + (40 - n) = omega (arith, within) in
    ap (λ m. take k (drop n (take m area))) whole ∙ ap (take k) (drop-take n (40 - n) area) ∙ take-take k (40 - n) (drop n area) (omega (arith, within))

long_same : (n : ℕ) (area : List ℕ) → n + 8 ≤ 40 → long_at (take 40 area) n ≡ long_at area n
long_same n area within = ap (from_le_bytes w64) (part n 8 area within)

word_same : (n : ℕ) (area : List ℕ) → n + 4 ≤ 40 → word_at (take 40 area) n ≡ word_at area n
word_same n area within = ap (from_le_bytes w32) (part n 4 area within)

zeros_same : (area : List ℕ) → has_zeros (take 40 area) ≡ has_zeros area
zeros_same area = ap (list_all (λ b. b == 0)) (part 32 7 area (omega arith))

head_of : ℕ → ℕ → ℕ → ℕ → ℕ → Head
head_of form epoch before blocks images = record { form = form; epoch = epoch; before = before; blocks = blocks; images = images }

open_same : (area : List ℕ) → 40 ≤ length area → is_open (take 40 area) ≡ is_open area
open_same area long =
    let a : nat_le 40 (length (take 40 area)) ≡ true = ap (nat_le 40) (length-take-le 40 area long) in
    let b : nat_le 40 (length area) ≡ true = grind (arith, nat_tests) in
    let s = get_or-take 40 area 39 0 (omega arith) in
    ap (λ o. o && slice_index (take 40 area) 39 == 165) (a ∙ sym b) ∙ ap (λ x. nat_le 40 (length area) && x == 165) s

named_same : (parity : ℕ) (area : List ℕ) → named_head parity (take 40 area) ≡ named_head parity area
named_same parity area =
    let a = long_same 0 area (omega arith) in
    let b = long_same 8 area (omega arith) in
    let d = long_same 16 area (omega arith) in
    let e = word_same 24 area (omega arith) in
    let f = word_same 28 area (omega arith) in
    cc

size_same : (area : List ℕ) → bad_size (take 40 area) ≡ bad_size area
size_same area =
    let e = word_same 24 area (omega arith) in
    let f = word_same 28 area (omega arith) in
    let z = zeros_same area in
    cc

-- the first 40 bytes say what stands at the front
pub front_same : (parity : ℕ) (area : List ℕ) → 40 ≤ length area → front_at parity (take 40 area) ≡ front_at parity area
front_same parity area long =
    let o = open_same area long in
    let s = size_same area in
    let n = named_same parity area in
    cc
