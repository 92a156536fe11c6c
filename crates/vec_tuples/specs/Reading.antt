-- Reading a tuple from left to right, field by field, up to the first whose value no tuple with the same earlier
-- fields has.
use Rattle.std.specs.Prelude.{ℕ, zero, suc, true, false, ◌+◌, ◌*◌, ◌/◌, ◌%◌, Bool, ◌&&◌, nat_le, ◌==◌, if◌then◌else◌, List, [], ◌∷◌, ◌++◌, length, replicate, slice_index, Option, Some, None}
use Rattle.std.specs.List.{list_all}
use Rattle.std.specs.Option.{option_to_list, is_none}
use Rattle.std.specs.Int.{w16, from_le_bytes}
use Rattle.index_sizes.specs.declared.limits.TheConstants.{MOST_BITS, MOST_BLOCKS, MOST_SLOTS}
use Rattle.vec_names.specs.declared.tid.Tid.{Tid}
use Rattle.vec_names.specs.declared.params.Kind.{Kind}
use Rattle.vec_names.specs.declared.params.Kind.TheVariants.{Hnsw, Ivf}
use Rattle.vec_names.specs.declared.params.Ops.{Ops}
use Rattle.vec_names.specs.declared.params.Ops.TheVariants.{Hamming, Jaccard}
use Rattle.vec_names.specs.declared.params.Params.{Params}
use Rattle.vec_names.specs.Pointer.{heap_id_option_in}
use Rattle.vec_names.specs.declared.heap_id.HeapId.{HeapId}
use Rattle.byte_fields.specs.Reading.{Read, Got, Bad, Reader, ◌>>=◌, as_bad, field, with_next, and_then, ◌⨟◌, viewed, times, only_if, byte_from, two_bytes_from, four_bytes_from, place, optional_place, heap_id, level_beside, packed_places, none_alone, no_place, slot_of}
use Rattle.vec_tuples.specs.declared.meta.Meta.{Meta}
use Rattle.vec_tuples.specs.declared.links.Links.{Links}
use Rattle.vec_tuples.specs.declared.entry.EntryRow.{EntryRow}
use Rattle.vec_tuples.specs.declared.centre.CentreTuple.{CentreTuple}
use Rattle.vec_tuples.specs.declared.element.Element.{Element}
use Rattle.vec_tuples.specs.declared.element.ElementHead.{ElementHead}
use Rattle.vec_tuples.specs.Spelling.{links_with, magic, length_word, row_with, centre_with, head_with, element_with}

-- ---- the whole

abbrev pub ended : {A : Type 0} → A → List ℕ → Read A
ended v [] = Got v []
ended v (b ∷ bs) = Bad (length (b ∷ bs))

-- a value and nothing behind it; the end of the bytes in a field is one more value that is not allowed
abbrev pub whole : {A : Type 0} → Reader A → Reader A
whole f bytes = as_bad (f bytes) >>= λ v rest. ended v rest

-- ---- the meta tuple

unfoldable pub kind_in : ℕ → Option Kind
kind_in byte = if byte == 1 then Some Hnsw else (if byte == 2 then Some Ivf else None)

unfoldable pub kind : Reader Kind
kind = field 1 (λ b. kind_in (slice_index b 0))

-- lists have the Hamming distance alone
unfoldable pub ops_in : Kind → ℕ → Option Ops
ops_in Hnsw byte = if byte == 1 then Some Hamming else (if byte == 2 then Some Jaccard else None)
ops_in Ivf byte = if byte == 1 then Some Hamming else None

unfoldable pub ops_of : Kind → Reader Ops
ops_of kind = field 1 (λ b. ops_in kind (slice_index b 0))

unfoldable pub m_of : Kind → Reader ℕ
m_of Hnsw = two_bytes_from 2 100
m_of Ivf = two_bytes_from 0 0

-- m being at least 2, twice m is at least 4
unfoldable pub ef_of : Kind → ℕ → Reader ℕ
ef_of Hnsw m = two_bytes_from (2 * m) 1000
ef_of Ivf m = two_bytes_from 0 0

unfoldable pub lists_of : Kind → Reader ℕ
lists_of Hnsw = four_bytes_from 0 0
lists_of Ivf = four_bytes_from 1 MOST_BLOCKS

unfoldable pub params : Reader Params
params =
    viewed (λ x. record { kind = x.0; ops = x.1.0; bits = x.1.1.0; m = x.1.1.1.0; ef = x.1.1.1.1.0; lists = x.1.1.1.1.1 })
    (and_then kind (λ k. ops_of k ⨟ four_bytes_from 1 MOST_BITS ⨟ and_then (m_of k) (λ m. ef_of k m ⨟ lists_of k)))

-- the place at which a search begins; lists have none
unfoldable pub entry_of : Kind → Reader (Option Tid)
entry_of Hnsw = optional_place
entry_of Ivf = no_place

unfoldable pub hint_of : Kind → Reader ℕ
hint_of Hnsw = four_bytes_from 1 MOST_BLOCKS
hint_of Ivf = four_bytes_from 0 0

unfoldable pub meta : Reader Meta
meta =
    viewed (λ x. record { format = x.1.0; params = x.1.1.0; entry = x.1.1.1.0; level = x.1.1.1.1.0; hint = x.1.1.1.1.1.1 })
    (four_bytes_from magic magic ⨟ two_bytes_from 1 2
    ⨟ and_then params (λ p. and_then (entry_of p.kind) (λ e. level_beside e ⨟ byte_from 0 0 ⨟ hint_of p.kind)))

-- ---- bit values

-- a value of so many places: its length, its count and its places
abbrev pub value_with : Reader (List Bool) → ℕ → Reader (List Bool)
value_with places count =
    viewed (λ x. x.1.1) (four_bytes_from (length_word count) (length_word count) ⨟ four_bytes_from count count ⨟ places)

unfoldable pub bit_value : ℕ → Reader (List Bool)
bit_value count = value_with (packed_places count) count

-- ---- the entry tuple and the list tuple

unfoldable pub entry : Params → Reader EntryRow
entry p = viewed (λ x. row_with x.0 x.1.1) (heap_id ⨟ two_bytes_from 0 0 ⨟ bit_value p.bits)

unfoldable pub centre : Params → Reader CentreTuple
centre p =
    viewed (λ x. centre_with x.0 x.1.0 x.1.1.1)
    (four_bytes_from 0 4294967295 ⨟ four_bytes_from 0 4294967295 ⨟ four_bytes_from 0 0 ⨟ bit_value p.bits)

-- ---- the neighbour tuple

-- whether there may be so many slots
unfoldable pub is_slot_count : ℕ → ℕ → Bool
is_slot_count zero count = count == 0
is_slot_count (suc k) count = nat_le count MOST_SLOTS && (nat_le 2 (count / suc k) && (nat_le (count / suc k) 257 && (count % suc k == 0)))

unfoldable pub slot_count : ℕ → Reader ℕ
slot_count m = field 2 (λ b. only_if (is_slot_count m (from_le_bytes w16 b)) (from_le_bytes w16 b))

unfoldable pub links : Params → Reader Links
links p =
    viewed (λ x. links_with (x.0 == 3) x.1.0 x.1.1.1)
    (and_then (byte_from 2 3) (λ k. byte_from 1 255 ⨟ and_then (slot_count p.m) (times (slot_of (k == 3)))))

-- ---- the element tuple

unfoldable pub optional_row : Reader (Option HeapId)
optional_row = field 6 heap_id_option_in

unfoldable pub no_row : Reader (Option HeapId)
no_row = field 6 (λ b. none_alone (heap_id_option_in b))

unfoldable pub row_of : Bool → Reader (Option HeapId)
row_of false = optional_row
row_of true = no_row

-- the rows in so many places; once they are closed, and behind a place with none, each has none
unfoldable pub rows : Bool → ℕ → Reader (List HeapId)
rows closed zero bytes = Got [] bytes
rows closed (suc n) bytes = with_next (λ row ids. option_to_list row ++ ids) (row_of closed) (λ row. rows (is_none row) n) bytes

unfoldable pub head : Reader ElementHead
head =
    viewed (λ x. head_with x.1.0 (x.1.1.0 == 1) x.1.1.1.0 x.1.1.1.1.0 x.1.1.1.1.1.0)
    (byte_from 1 1 ⨟ byte_from 0 255 ⨟ and_then (byte_from 0 1) (λ d. byte_from 1 255 ⨟ rows (d == 1) 10 ⨟ place ⨟ two_bytes_from 0 0))

-- the places of a bit value none of which is set
unfoldable pub clear_places : ℕ → Reader (List Bool)
clear_places count = field ((count + 7) / 8) (λ b. only_if (list_all (λ x. x == 0) b) (replicate count false))

unfoldable pub value_of : Bool → ℕ → Reader (List Bool)
value_of false count = bit_value count
value_of true count = value_with (clear_places count) count

unfoldable pub element : Params → Reader Element
element p = with_next element_with head (λ h. value_of h.deleted p.bits)

-- ---- tuples with a value

abbrev pub is_zero_at : List ℕ → ℕ → Bool
is_zero_at bytes i = slice_index bytes i == 0

-- Where the places begin. In a list's tuple and in an entry the high halves of the words at 8 and 12 are 0. In an element
-- the second place of rows stands there: the first of these is not 0 where it is empty, and the second, its offset, where
-- it is not. The word at 8 is 0 in a list's tuple and a length in an entry.
unfoldable pub places_at : List ℕ → ℕ
places_at bytes =
    if is_zero_at bytes 10 && (is_zero_at bytes 14 && is_zero_at bytes 15)
    then (if is_zero_at bytes 8 && is_zero_at bytes 9 then 20 else 16)
    else 80
