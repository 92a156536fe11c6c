-- A value that is copied by its bytes.
use Rattle.std.proofs.Common.{◌≡◌, ◌≤◌, ℕ, Bool, List, length, take, subst}
use Rattle.bit_code.specs.Places.{packed, unpacked, Packed}
use Rattle.bit_code.proofs.ExactPacking.{packed-Packed, unpacked-packed}

pub packed_of : (n : ℕ) (xs : List Bool) → length xs ≡ n → 1 ≤ length xs → length xs ≤ 64000 → Packed n (packed xs)
packed_of n xs same some few = subst (λ k. Packed k (packed xs)) same (packed-Packed xs some few)

pub unpacked_of : (n : ℕ) (xs : List Bool) → length xs ≡ n → take n (unpacked (packed xs)) ≡ xs
unpacked_of n xs same = subst (λ k. take k (unpacked (packed xs)) ≡ xs) same (unpacked-packed xs)
