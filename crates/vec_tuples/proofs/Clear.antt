-- Places none of which is set are packed as zeros.
use Rattle.std.proofs.Common.{◌≡◌, ℕ, zero, suc, ◌+◌, ◌-◌, ◌/◌, ◌≤◌, Bool, true, false, List, [], ◌∷◌, ◌++◌, eqb, length, take, refl, sym, ap, ap₂, subst, ◌∙◌, arith}
use Rattle.std.specs.Prelude.{replicate}
use Rattle.std.specs.List.{list_all}
use Rattle.std.proofs.lemmas.Bool.{and_parts, eqb-true}
use Rattle.std.proofs.lemmas.List.{length-replicate, drop-replicate}
use Rattle.std.specs.Int.{w32, to_le_bytes}
use Rattle.vec_tuples.specs.Spelling.{length_word, bits_bytes}
use Rattle.bit_code.specs.Places.{number_of, packed, packed_in, unpacked, Packed}
use Rattle.bit_code.proofs.ExactPacking.{packed-Packed, unpacked-packed, length-packed}

-- ---- places none of which is set

pub all_zero : (bs : List ℕ) → list_all (λ x. eqb x 0) bs ≡ true → bs ≡ replicate (length bs) 0
all_zero [] h = refl
all_zero (b ∷ bs) h =
    let both = and_parts _ _ h in
    ap₂ (λ (x : ℕ) (xs : List ℕ). x ∷ xs) (eqb-true b 0 both.0) (all_zero bs both.1)

pub zeros_told : (n : ℕ) → list_all (λ x. eqb x 0) (replicate n 0) ≡ true
zeros_told zero = refl
zeros_told (suc n) = zeros_told n

number_of-falses : (k n : ℕ) → number_of k (replicate n false) ≡ 0
unfolding number_of
number_of-falses zero n = refl
number_of-falses (suc k) zero = refl
number_of-falses (suc k) (suc n) = omega (arith, number_of-falses k n)

packed_in-falses : (k n : ℕ) → packed_in k (replicate n false) ≡ replicate k 0
unfolding packed_in
packed_in-falses zero n = refl
packed_in-falses (suc k) n =
    ap₂ (λ (x : ℕ) (xs : List ℕ). x ∷ xs) (number_of-falses 8 n) (ap (λ (xs : List Bool). packed_in k xs) (drop-replicate 8 n false) ∙ packed_in-falses k (n - 8))

pub packed_zeros : (n : ℕ) → packed (replicate n false) ≡ replicate ((n + 7) / 8) 0
unfolding packed
packed_zeros n = ap (λ m. packed_in ((m + 7) / 8) (replicate n false)) (length-replicate n false) ∙ packed_in-falses ((n + 7) / 8) n

zeros_packed : (count : ℕ) (bs : List ℕ) → length bs ≡ (count + 7) / 8 → list_all (λ x. eqb x 0) bs ≡ true → bs ≡ packed (replicate count false)
zeros_packed count bs long told = all_zero bs told ∙ ap (λ n. replicate n 0) long ∙ sym (packed_zeros count)

pub zeros_clear : (count : ℕ) (bs : List ℕ) → length bs ≡ (count + 7) / 8 → list_all (λ x. eqb x 0) bs ≡ true → take count (unpacked bs) ≡ replicate count false
zeros_clear count bs long told =
    ap₂ (λ (n : ℕ) (b : List ℕ). take n (unpacked b)) (sym (length-replicate count false)) (zeros_packed count bs long told) ∙ unpacked-packed (replicate count false)

pub zeros_kept : (count : ℕ) (bs : List ℕ) → 1 ≤ count → count ≤ 64000 → length bs ≡ (count + 7) / 8 → list_all (λ x. eqb x 0) bs ≡ true → Packed count bs
zeros_kept count bs some few long told =
    let n : length (replicate count false) ≡ count = length-replicate count false in
    subst (λ (b : List ℕ). Packed count b) (sym (zeros_packed count bs long told))
    (subst (λ (k : ℕ). Packed k (packed (replicate count false))) n (packed-Packed (replicate count false) (omega (arith, n, some)) (omega (arith, n, few))))

-- ---- a value that is cleared

pub cleared : (old : List ℕ) (bits : List Bool) → old ≡ bits_bytes bits → take 8 old ++ replicate (length old - 8) 0 ≡ bits_bytes (replicate (length bits) false)
cleared old bits is =
    let long : length old ≡ 8 + (length bits + 7) / 8 = ap (λ (b : List ℕ). length b) is ∙ omega (arith, length-packed bits) in
    let n : length old - 8 ≡ (length bits + 7) / 8 = omega (arith, long) in
    let same : length (replicate (length bits) false) ≡ length bits = length-replicate (length bits) false in
    ap₂ (λ (b : List ℕ) (k : ℕ). take 8 b ++ replicate k 0) is n
    ∙ ap₂ (λ (k : ℕ) (t : List ℕ). to_le_bytes w32 (length_word k) ++ (to_le_bytes w32 k ++ t)) (sym same) (sym (packed_zeros (length bits)))
