-- A packed value as the list of its places, and the counts on such lists.
use Rattle.std.specs.Prelude.{ℕ, zero, suc, ◌+◌, ◌*◌, ◌/◌, ◌%◌, ◌^◌, ◌≤◌, ◌-◌, ◌≡◌, Bool, true, false, List, [], ◌∷◌, ◌++◌, ◌==◌, length, drop, replicate}
use Rattle.index_sizes.specs.declared.limits.TheConstants.{MOST_BITS}

-- the k lowest binary digits of n, the highest of them first
unfoldable pub places : ℕ → ℕ → List Bool
places zero n = []
places (suc k) n = places k (n / 2) ++ (n % 2 == 1) ∷ []

-- the places of packed bytes, eight of each
unfoldable pub unpacked : List ℕ → List Bool
unpacked [] = []
unpacked (b ∷ bs) = places 8 b ++ unpacked bs

abbrev pub digit_of : Bool → ℕ
digit_of false = 0
digit_of true = 1

-- the number of k binary digits, the highest first; what the list lacks counts as 0
unfoldable pub number_of : ℕ → List Bool → ℕ
number_of zero xs = 0
number_of (suc k) [] = 0
number_of (suc k) (x ∷ xs) = digit_of x * 2 ^ k + number_of k xs

-- k bytes of eight places each
unfoldable pub packed_in : ℕ → List Bool → List ℕ
packed_in zero xs = []
packed_in (suc k) xs = number_of 8 xs ∷ packed_in k (drop 8 xs)

-- the bytes that hold a value's places: the first in the highest bit of the first byte, unused bits 0
unfoldable pub packed : List Bool → List ℕ
packed xs = packed_in ((length xs + 7) / 8) xs

abbrev pub one_if_unequal : Bool → Bool → ℕ
one_if_unequal false false = 0
one_if_unequal false true = 1
one_if_unequal true false = 1
one_if_unequal true true = 0

abbrev pub one_if_both : Bool → Bool → ℕ
one_if_both false false = 0
one_if_both false true = 0
one_if_both true false = 0
one_if_both true true = 1

-- the sum of f over the places of two lists of one length
unfoldable pub tally : (Bool → Bool → ℕ) → List Bool → List Bool → ℕ
tally f [] ys = 0
tally f (x ∷ xs) [] = 0
tally f (x ∷ xs) (y ∷ ys) = f x y + tally f xs ys

-- how many places of two lists of one length are unequal
abbrev pub unequal : List Bool → List Bool → ℕ
unequal xs ys = tally one_if_unequal xs ys

-- at how many places of two lists of one length both are 1
abbrev pub both : List Bool → List Bool → ℕ
both xs ys = tally one_if_both xs ys

-- how many places are 1
unfoldable pub ones : List Bool → ℕ
ones [] = 0
ones (x ∷ xs) = digit_of x + ones xs

-- bytes that hold these places and no more
pub record Packs (xs : List Bool) (bytes : List ℕ) : Type 0 where
  pub long : length bytes ≡ (length xs + 7) / 8
  pub spelled : unpacked bytes ≡ xs ++ replicate (8 * length bytes - length xs) false

-- what the fields of a packed value keep: unused places are 0
pub record Packed (count : ℕ) (bytes : List ℕ) : Type 0 where
  pub some : 1 ≤ count
  pub few : count ≤ MOST_BITS
  pub long : length bytes ≡ (count + 7) / 8
  pub clear : drop count (unpacked bytes) ≡ replicate (8 * length bytes - count) false
