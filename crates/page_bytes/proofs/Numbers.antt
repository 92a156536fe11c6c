-- Numbers within bytes, and a part written over a part.
use Rattle.std.proofs.Common.{◌≡◌, ℕ, ◌+◌, ◌^◌, ◌<◌, ◌≤◌, List, ◌++◌, length, get_or, drop, refl, sym, ap, ◌∙◌, arith, append_assoc}
use Rattle.std.specs.Int.{w16, w32, w64, to_le_bytes}
use Rattle.std.proofs.lemmas.List.{take_at, drop_at, length-append, length-drop, length-take, get_or-append-add, get_or-drop}
use Rattle.page_bytes.specs.Decoding.{half_at, word_at, long_at}
use Rattle.page_bytes.specs.Splice.{spliced}

get_or-behind : (a y : List ℕ) (at k : ℕ) → at ≡ length a + k → get_or (a ++ y) at 0 ≡ get_or y k 0
get_or-behind a y at k e = rw e (get_or-append-add a y k 0)

-- a number that stands behind some bytes
pub half_at-append : (a y : List ℕ) (at k : ℕ) → at ≡ length a + k → half_at (a ++ y) at ≡ half_at y k
unfolding half_at
half_at-append a y at k e =
    let low = get_or-behind a y at k e in
    let high = get_or-behind a y (at + 1) (k + 1) (omega arith) in
    omega (arith, low, high)

pub word_at-append : (a y : List ℕ) (at k : ℕ) → at ≡ length a + k → word_at (a ++ y) at ≡ word_at y k
unfolding word_at
word_at-append a y at k e =
    omega (arith, half_at-append a y at k e, half_at-append a y (at + 2) (k + 2) (omega arith))

pub half_at-drop : (at k : ℕ) (bytes : List ℕ) → half_at (drop at bytes) k ≡ half_at bytes (at + k)
unfolding half_at
half_at-drop at k bytes =
    let low = get_or-drop at bytes k 0 in
    let high = get_or-drop at bytes (k + 1) 0 in
    grind arith

pub word_at-drop : (at k : ℕ) (bytes : List ℕ) → word_at (drop at bytes) k ≡ word_at bytes (at + k)
unfolding word_at
word_at-drop at k bytes =
    let low = half_at-drop at k bytes in
    let high = half_at-drop at (k + 2) bytes in
    grind arith

-- the number that was written at the front
pub half_at-bytes : (n : ℕ) (z : List ℕ) → n < 2 ^ 16 → half_at (to_le_bytes w16 n ++ z) 0 ≡ n
unfolding half_at
half_at-bytes n z h = omega arith

pub word_at-bytes : (n : ℕ) (z : List ℕ) → n < 2 ^ 32 → word_at (to_le_bytes w32 n ++ z) 0 ≡ n
unfolding half_at word_at
word_at-bytes n z h = omega arith

pub long_at-bytes : (n : ℕ) (z : List ℕ) → n < 2 ^ 64 → long_at (to_le_bytes w64 n ++ z) 0 ≡ n
unfolding half_at word_at long_at
long_at-bytes n z h = omega arith

-- a part written over a part as long
pub spliced_at : (a b c ys : List ℕ) (at : ℕ) → length a ≡ at → length b ≡ length ys → spliced (a ++ (b ++ c)) at ys ≡ a ++ (ys ++ c)
unfolding spliced
spliced_at a b c ys at e f =
    let front = take_at a (b ++ c) at e in
    let back : drop (at + length ys) (a ++ (b ++ c)) ≡ c = ap (drop (at + length ys)) (sym (append_assoc a b c)) ∙ drop_at (a ++ b) c (at + length ys) (omega (arith, length-append a b)) in
    rw (front, back) refl

pub length-spliced : (bytes : List ℕ) (at : ℕ) (ys : List ℕ) → at + length ys ≤ length bytes → length (spliced bytes at ys) ≡ length bytes
unfolding spliced
length-spliced bytes at ys h = grind (arith, length-append {A = ℕ}, length-drop {A = ℕ}, length-take {A = ℕ})
