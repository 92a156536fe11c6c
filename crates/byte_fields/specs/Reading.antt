-- Reading a record from left to right, field by field, up to the first that can't be read.
use Rattle.std.specs.Prelude.{ℕ, zero, suc, true, false, ◌+◌, ◌/◌, Bool, not, ◌&&◌, nat_lt, nat_le, if◌then◌else◌, List, [], ◌∷◌, length, take, drop, slice_index, Option, Some, None}
use Rattle.std.specs.List.{list_all}
use Rattle.std.specs.Int.{w16, w32, from_le_bytes}
use Rattle.bit_code.specs.Places.{unpacked}
use Rattle.vec_names.specs.declared.tid.Tid.{Tid}
use Rattle.vec_names.specs.declared.heap_id.HeapId.{HeapId}
use Rattle.vec_names.specs.Pointer.{tid_in, tid_option_in, heap_id_in}

-- ---- readers

-- what reading gives: a value and the bytes after it; that a field's value is not allowed, with the number of bytes
-- from that field on; or that the bytes end in a field, with the number of bytes from that field on
pub data Read (A : Type 0) : Type 0 where
  Got : (value : A) (rest : List ℕ) → Read A
  Bad : (left : ℕ) → Read A
  Short : (left : ℕ) → Read A

abbrev pub Reader : Type 0 → Type 0
Reader A = List ℕ → Read A

-- goes on with the value and the rest
infixl 10 ◌>>=◌
abbrev pub ◌>>=◌ : {A B : Type 0} → Read A → (A → List ℕ → Read B) → Read B
(Got v rest) >>= f = f v rest
(Bad left) >>= f = Bad left
(Short left) >>= f = Short left

-- the same, for a record in which the end of the bytes is one more value that is not allowed
abbrev pub as_bad : {A : Type 0} → Read A → Read A
as_bad (Got v rest) = Got v rest
as_bad (Bad left) = Bad left
as_bad (Short left) = Bad left

-- n bytes with what they tell, if that is allowed
abbrev pub told : {A : Type 0} → ℕ → List ℕ → Option A → Read A
told n bytes None = Bad (length bytes)
told n bytes (Some v) = Got v (drop n bytes)

-- a field of n bytes
unfoldable pub field : {A : Type 0} → ℕ → (List ℕ → Option A) → Reader A
field n meant bytes = if nat_lt (length bytes) n then Short (length bytes) else told n bytes (meant (take n bytes))

-- a field, then one that may depend on it, and what the two make
abbrev pub with_next : {A B C : Type 0} → (A → B → C) → Reader A → (A → Reader B) → Reader C
with_next made f g bytes = f bytes >>= λ v rest. g v rest >>= λ w rest'. Got (made v w) rest'

-- both of them
abbrev pub and_then : {A B : Type 0} → Reader A → (A → Reader B) → Reader (A × B)
and_then f g = with_next (λ v w. (v, w)) f g

-- a field, and then another one
infixr 10 ◌⨟◌
abbrev pub ◌⨟◌ : {A B : Type 0} → Reader A → Reader B → Reader (A × B)
f ⨟ g = and_then f (λ _. g)

-- a field that the value is not to have, as a count, and then what depends on it
abbrev pub depending : {A B : Type 0} → Reader A → (A → Reader B) → Reader B
depending f g bytes = f bytes >>= g

-- as another value
abbrev pub viewed : {A B : Type 0} → (A → B) → Reader A → Reader B
viewed view f bytes = f bytes >>= λ v rest. Got (view v) rest

-- so many values one after the other
unfoldable pub times : {A : Type 0} → Reader A → ℕ → Reader (List A)
times f zero bytes = Got [] bytes
times f (suc n) bytes = with_next (λ v vs. v ∷ vs) f (λ _. times f n) bytes

-- ---- fields

abbrev pub only_if : {A : Type 0} → Bool → A → Option A
only_if allowed v = if allowed then Some v else None

-- a value from low to high
abbrev pub only_from : ℕ → ℕ → ℕ → Option ℕ
only_from low high v = only_if (nat_le low v && nat_le v high) v

-- one byte from low to high
unfoldable pub byte_from : ℕ → ℕ → Reader ℕ
byte_from low high = field 1 (λ b. only_from low high (slice_index b 0))

-- two bytes of a number from low to high
unfoldable pub two_bytes_from : ℕ → ℕ → Reader ℕ
two_bytes_from low high = field 2 (λ b. only_from low high (from_le_bytes w16 b))

-- four bytes of a number from low to high
unfoldable pub four_bytes_from : ℕ → ℕ → Reader ℕ
four_bytes_from low high = field 4 (λ b. only_from low high (from_le_bytes w32 b))

unfoldable pub place : Reader Tid
place = field 6 tid_in

unfoldable pub optional_place : Reader (Option Tid)
optional_place = field 6 tid_option_in

unfoldable pub heap_id : Reader HeapId
heap_id = field 6 heap_id_in

-- a level beside the place of an entry; where there is none, 0 alone
unfoldable pub level_beside : Option Tid → Reader ℕ
level_beside None = byte_from 0 0
level_beside (Some at) = byte_from 0 255

-- the places of a bit value, no unused bit being set
unfoldable pub packed_places : ℕ → Reader (List Bool)
packed_places count = field ((count + 7) / 8) (λ b. only_if (list_all not (drop count (unpacked b))) (take count (unpacked b)))

-- only that there is none
unfoldable pub none_alone : {A : Type 0} → Option (Option A) → Option (Option A)
none_alone None = None
none_alone (Some None) = Some None
none_alone (Some (Some v)) = None

unfoldable pub no_place : Reader (Option Tid)
no_place = field 6 (λ b. none_alone (tid_option_in b))

-- an optional place; where it is closed, only that there is none
unfoldable pub slot_of : Bool → Reader (Option Tid)
slot_of false = optional_place
slot_of true = no_place
