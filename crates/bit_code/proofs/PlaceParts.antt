-- Parts of a number's places, and what the unused bits of packed bytes are.
use Rattle.std.proofs.Common.{◌≡◌, refl, sym, ap, ap₂, ◌∙◌, subst, ℕ, zero, suc, ◌+◌, ◌*◌, ◌/◌, ◌%◌, ◌-◌, ◌^◌, ◌<◌, ◌≤◌, List, [], ◌∷◌, ◌++◌, length, get_or, take, drop, arith, add-one, append_assoc}
use Rattle.std.specs.Prelude.{Bool, false, ◌==◌, replicate}
use Rattle.std.proofs.lemmas.Nat.{shr-shr, mod-pow-add, pow_pos, mod_below, mod-mul-add}
use Rattle.std.proofs.lemmas.List.{drop_at, drop-drop, drop_all, drop_more, take-append-drop, length-take-le, append-nil, replicate_more}
use Rattle.bit_code.specs.Places.{places, unpacked, number_of}
use Rattle.bit_code.proofs.TalliedBytes.{length-places, length-unpacked, unpacked-append}
use Rattle.bit_code.proofs.PackedPlaces.{number_of-places, unpacked-one}

-- the high k of s + k digits, and then the low s
pub places-split : (s k j n : ℕ) → j ≡ s + k → places j n ≡ places k (n / 2 ^ s) ++ places s n
unfolding places
places-split zero k j n e =
    let same : j ≡ k = omega (arith, e) in
    let one : n ≡ n / 1 = omega arith in
    ap₂ places same one ∙ sym (append-nil (places k (n / 1)))
places-split (suc s) k zero n e = absurd (omega (arith, e))
places-split (suc s) k (suc j) n e =
    let fewer : j ≡ s + k = omega (arith, e) in
    let power : 1 + s ≡ suc s = omega arith in
    ap (λ (xs : List Bool). xs ++ (n % 2 == 1) ∷ []) (places-split s k j (n / 2) fewer)
    ∙ append_assoc (places k (n / 2 / 2 ^ s)) (places s (n / 2)) ((n % 2 == 1) ∷ [])
    ∙ ap (λ (m : ℕ). places k m ++ (places s (n / 2) ++ (n % 2 == 1) ∷ [])) (shr-shr n 1 s ∙ ap (λ (i : ℕ). n / 2 ^ i) power)

-- only the low k digits are seen
pub low-places : (k n m : ℕ) → n % 2 ^ k ≡ m % 2 ^ k → places k n ≡ places k m
unfolding places
low-places zero n m e = refl
low-places (suc k) n m e =
    let power : 2 ^ suc k ≡ 2 ^ (k + 1) = ap (λ (i : ℕ). 2 ^ i) (sym (add-one k)) in
    let more : n % 2 ^ (k + 1) ≡ m % 2 ^ (k + 1) = subst (λ (w : ℕ). n % w ≡ m % w) power e in
    let half : n / 2 % 2 ^ k ≡ m / 2 % 2 ^ k = omega (arith, more, mod-pow-add n k 1, mod-pow-add m k 1) in
    let last : n % 2 ≡ m % 2 = omega (arith, more, mod-pow-add n k 1, mod-pow-add m k 1) in
    ap₂ (λ (xs : List Bool) (d : ℕ). xs ++ (d == 1) ∷ []) (low-places k (n / 2) (m / 2) half) last

mod-again : (n w : ℕ) → 0 < w → n % w ≡ n % w % w
mod-again n w h =
    let same : 0 * w + n % w ≡ n % w = omega arith in
    sym (ap (λ (m : ℕ). m % w) (sym same) ∙ mod-mul-add 0 w (n % w) (mod_below n w h))

pub places-number : (k n : ℕ) → number_of k (places k n) ≡ n % 2 ^ k
places-number k n =
    ap (λ (xs : List Bool). number_of k xs) (low-places k n (n % 2 ^ k) (mod-again n (2 ^ k) (pow_pos k)))
    ∙ number_of-places k (n % 2 ^ k) (mod_below n (2 ^ k) (pow_pos k))

-- ---- places that are all 0

pub places-zero : (k : ℕ) → places k 0 ≡ replicate k false
unfolding places
places-zero zero = refl
places-zero (suc k) =
    ap (λ (xs : List Bool). xs ++ false ∷ []) (places-zero k) ∙ replicate_more k false ∙ ap (λ (i : ℕ). replicate i false) (add-one k)

pub clear-places : (k n : ℕ) → n % 2 ^ k ≡ 0 → places k n ≡ replicate k false
clear-places k n e =
    let none : 0 % 2 ^ k ≡ 0 = omega (arith, pow_pos k) in
    low-places k n 0 (e ∙ sym none) ∙ places-zero k

pub places-clear : (k n : ℕ) → places k n ≡ replicate k false → n % 2 ^ k ≡ 0
places-clear k n e =
    let none : 0 % 2 ^ k ≡ 0 = omega (arith, pow_pos k) in
    sym (places-number k n) ∙ ap (λ (xs : List Bool). number_of k xs) (e ∙ sym (places-zero k)) ∙ places-number k 0 ∙ none

-- ---- the end of packed bytes

last-byte : (m : ℕ) (bs : List ℕ) → length bs ≡ m + 1 → unpacked bs ≡ unpacked (take m bs) ++ places 8 (get_or bs m 0)
last-byte m bs long =
    let here : drop m bs ≡ get_or bs m 0 ∷ [] =
    drop_more bs m 0 (omega (arith, long)) ∙ ap (λ (l : List ℕ). get_or bs m 0 ∷ l) (drop_all (m + 1) bs (omega (arith, long))) in
    ap unpacked (sym (take-append-drop m bs)) ∙ unpacked-append (take m bs) (drop m bs)
    ∙ ap (λ (xs : List Bool). unpacked (take m bs) ++ xs) (ap unpacked here ∙ unpacked-one (get_or bs m 0))

-- the places past the first c are the lowest bits of the last byte
pub unused-places : (c s b : ℕ) (bs : List ℕ) → 1 ≤ c → length bs ≡ (c + 7) / 8 → s + c ≡ 8 * length bs → b ≡ get_or bs (length bs - 1) 0 → drop c (unpacked bs) ≡ places s b
unused-places c s b bs some long fill is =
    let m = length bs - 1 in
    let more : length bs ≡ m + 1 = omega (arith, some, long) in
    let front : length (unpacked (take m bs)) ≡ 8 * m = omega (arith, length-unpacked (take m bs), length-take-le m bs (omega (arith, more))) in
    let at : 8 * m + (8 - s) ≡ c = omega (arith, some, long, fill) in
    let eight : 8 ≡ s + (8 - s) = omega (arith, some, long, fill) in
    ap (λ (i : ℕ). drop i (unpacked bs)) (sym at)
    ∙ sym (drop-drop (8 - s) (8 * m) (unpacked bs))
    ∙ ap (λ (xs : List Bool). drop (8 - s) (drop (8 * m) xs)) (last-byte m bs more)
    ∙ ap (λ (xs : List Bool). drop (8 - s) xs) (drop_at (unpacked (take m bs)) (places 8 (get_or bs m 0)) (8 * m) front)
    ∙ ap (λ (n : ℕ). drop (8 - s) (places 8 n)) (sym is)
    ∙ ap (λ (xs : List Bool). drop (8 - s) xs) (places-split s (8 - s) 8 b eight)
    ∙ drop_at (places (8 - s) (b / 2 ^ s)) (places s b) (8 - s) (length-places (8 - s) (b / 2 ^ s))
