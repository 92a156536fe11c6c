-- The one spelling of each tuple, field after field. Numbers are little-endian.
use Rattle.std.specs.Prelude.{◌≡◌, ℕ, zero, suc, ◌+◌, ◌*◌, ◌/◌, ◌≤◌, ◌<◌, ◌^◌, Bool, true, false, List, [], ◌∷◌, ◌++◌, length, replicate, Option, None}
use Rattle.std.specs.List.{flat_map, AllByRecursion}
use Rattle.std.specs.Int.{w16, w32, to_le_bytes}
use Rattle.index_sizes.specs.declared.limits.TheConstants.{MOST_BLOCKS, MOST_SLOTS}
use Rattle.vec_names.specs.declared.tid.Tid.{Tid}
use Rattle.vec_names.specs.declared.heap_id.HeapId.{HeapId}
use Rattle.vec_names.specs.declared.params.Kind.{Kind}
use Rattle.vec_names.specs.declared.params.Kind.TheVariants.{Hnsw, Ivf}
use Rattle.vec_names.specs.declared.params.Ops.{Ops}
use Rattle.vec_names.specs.declared.params.Ops.TheVariants.{Hamming, Jaccard}
use Rattle.vec_names.specs.declared.params.Params.{Params}
use Rattle.vec_names.specs.Params.{IsInRange}
use Rattle.vec_names.specs.Pointer.{tid_bytes, tid_option_bytes, heap_id_bytes, heap_id_option_bytes}
use Rattle.byte_fields.specs.Levels.{is_level}
use Rattle.bit_code.specs.Places.{packed}
use Rattle.vec_tuples.specs.declared.meta.Meta.{Meta}
use Rattle.vec_tuples.specs.declared.entry.EntryRow.{EntryRow}
use Rattle.vec_tuples.specs.declared.centre.CentreTuple.{CentreTuple}
use Rattle.vec_tuples.specs.declared.links.Links.{Links}
use Rattle.vec_tuples.specs.declared.element.Element.{Element}
use Rattle.vec_tuples.specs.declared.element.ElementHead.{ElementHead}

-- ---- the meta tuple

abbrev pub magic : ℕ
magic = 0x42495456

abbrev pub kind_byte : Kind → ℕ
kind_byte Hnsw = 1
kind_byte Ivf = 2

abbrev pub ops_byte : Ops → ℕ
ops_byte Hamming = 1
ops_byte Jaccard = 2

abbrev pub params_bytes : Params → List ℕ
params_bytes p =
    kind_byte p.kind ∷ ops_byte p.ops ∷ to_le_bytes w32 p.bits ++ (to_le_bytes w16 p.m ++ (to_le_bytes w16 p.ef ++ to_le_bytes w32 p.lists))

-- 32 bytes
unfoldable pub meta_bytes : Meta → List ℕ
meta_bytes m =
    to_le_bytes w32 magic
    ++ (to_le_bytes w16 m.format ++ (params_bytes m.params ++ (tid_option_bytes m.entry ++ (m.level ∷ 0 ∷ to_le_bytes w32 m.hint))))

-- a level stands above 0 only beside an entry point, and has one byte
abbrev pub IsLevelOf : Option Tid → ℕ → Type 0
IsLevelOf entry level = (is_level entry level ≡ true) × (level < 2 ^ 8)

-- lists have no entry
abbrev pub IsEntryOf : Kind → Option Tid → Type 0
IsEntryOf Hnsw entry = Unit {0}
IsEntryOf Ivf entry = entry ≡ None

-- a graph looks for room from one of its blocks on, lists do not
abbrev pub IsHintOf : Kind → ℕ → Type 0
IsHintOf Hnsw hint = (1 ≤ hint) × (hint ≤ MOST_BLOCKS)
IsHintOf Ivf hint = hint ≡ 0

-- which values have a meta tuple
pub record IsMeta (m : Meta) : Type 0 where
  pub format_low : 1 ≤ m.format
  pub format_high : m.format ≤ 2
  pub params : IsInRange m.params
  pub entry : IsEntryOf m.params.kind m.entry
  pub level : IsLevelOf m.entry m.level
  pub hint : IsHintOf m.params.kind m.hint

-- ---- bit values

-- the length of a value's bytes with this head of eight, shifted left by two
abbrev pub length_word : ℕ → ℕ
length_word count = 4 * (8 + (count + 7) / 8)

abbrev pub bits_bytes : List Bool → List ℕ
bits_bytes bits = to_le_bytes w32 (length_word (length bits)) ++ (to_le_bytes w32 (length bits) ++ packed bits)

-- ---- the entry tuple

abbrev pub row_with : HeapId → List Bool → EntryRow
row_with id bits = record { id = id; bits = bits }

-- a row of the indexed table with its value
unfoldable pub entry_bytes : EntryRow → List ℕ
entry_bytes row = heap_id_bytes row.id ++ (0 ∷ 0 ∷ bits_bytes row.bits)

abbrev pub IsEntry : Params → EntryRow → Type 0
IsEntry params row = length row.bits ≡ params.bits

-- ---- the list tuple

abbrev pub centre_with : ℕ → ℕ → List Bool → CentreTuple
centre_with first aim bits = record { first = first; aim = aim; bits = bits }

-- the list's first block, the block at which it looks for room, and its centre
unfoldable pub centre_bytes : CentreTuple → List ℕ
centre_bytes c = to_le_bytes w32 c.first ++ (to_le_bytes w32 c.aim ++ (0 ∷ 0 ∷ 0 ∷ 0 ∷ bits_bytes c.bits))

-- what stands before the centre: the first block and the aim
abbrev pub head_of_centre : CentreTuple → ℕ × ℕ
head_of_centre c = (c.first, c.aim)

abbrev pub IsCentre : Params → CentreTuple → Type 0
IsCentre params c = (c.first < 2 ^ 32) × (c.aim < 2 ^ 32) × (length c.bits ≡ params.bits)

-- ---- the neighbour tuple

abbrev pub links_kind : Bool → ℕ
links_kind false = 2
links_kind true = 3

abbrev pub links_with : Bool → ℕ → List (Option Tid) → Links
links_with deleted version tids = record { deleted = deleted; version = version; tids = tids }

unfoldable pub links_bytes : Links → List ℕ
links_bytes l = links_kind l.deleted ∷ l.version ∷ to_le_bytes w16 (length l.tids) ++ flat_map tid_option_bytes l.tids

-- twice m slots for the lowest layer, and m for each of the level's layers above it
abbrev pub IsSlotCount : ℕ → ℕ → Type 0
IsSlotCount m count = (count ≤ MOST_SLOTS) × (level : ℕ) × (level ≤ 255) × (count ≡ (level + 2) * m)

-- a deleted element has no neighbour
abbrev pub IsSlotOf : Bool → Option Tid → Type 0
IsSlotOf false slot = Unit {0}
IsSlotOf true slot = slot ≡ None

pub record IsLinks (p : Params) (l : Links) : Type 0 where
  pub version_low : 1 ≤ l.version
  pub version_high : l.version ≤ 255
  pub count : IsSlotCount p.m (length l.tids)
  pub slots : AllByRecursion (IsSlotOf l.deleted) l.tids

-- what stands before the slots: whether the element is deleted, its version, and the number of slots
abbrev pub head_of_links : Links → Bool × ℕ × ℕ
head_of_links l = (l.deleted, l.version, length l.tids)

-- the bytes spell some neighbour tuple that has a slot of this number
pub record HasSlot (bytes : List ℕ) (at : ℕ) : Type 0 where
  pub links : Links
  pub spelled : bytes ≡ links_bytes links
  pub below : at < length links.tids

-- ---- the element tuple

abbrev pub deleted_byte : Bool → ℕ
deleted_byte false = 0
deleted_byte true = 1

-- so many places, in which the rows stand first and then none
unfoldable pub rows_bytes : ℕ → List HeapId → List ℕ
rows_bytes zero ids = []
rows_bytes (suc n) [] = heap_id_option_bytes None ++ rows_bytes n []
rows_bytes (suc n) (id ∷ ids) = heap_id_bytes id ++ rows_bytes n ids

abbrev pub head_with : ℕ → Bool → ℕ → List HeapId → Tid → ElementHead
head_with level deleted version ids list_at = record {
  level = level;
  deleted = deleted;
  version = version;
  ids = record { items = ids };
  list_at = list_at;
}

-- an element is its head and its value
abbrev pub element_with : ElementHead → List Bool → Element
element_with h bits = record { level = h.level; deleted = h.deleted; version = h.version; ids = h.ids; list_at = h.list_at; bits = bits }

abbrev pub head_of_element : Element → ElementHead
head_of_element e = record { level = e.level; deleted = e.deleted; version = e.version; ids = e.ids; list_at = e.list_at }

-- the 72 bytes before the value
unfoldable pub head_bytes : ElementHead → List ℕ
head_bytes h = 1 ∷ h.level ∷ deleted_byte h.deleted ∷ h.version ∷ rows_bytes 10 h.ids.items ++ (tid_bytes h.list_at ++ (0 ∷ 0 ∷ []))

unfoldable pub element_bytes : Element → List ℕ
element_bytes e = head_bytes (head_of_element e) ++ bits_bytes e.bits

-- a deleted element names no row
abbrev pub IsEmptyIf : Bool → List HeapId → Type 0
IsEmptyIf false ids = Unit {0}
IsEmptyIf true ids = ids ≡ []

pub record IsHead (h : ElementHead) : Type 0 where
  pub level : h.level ≤ 255
  pub version_low : 1 ≤ h.version
  pub version_high : h.version ≤ 255
  pub few : length h.ids.items ≤ 10
  pub none_left : IsEmptyIf h.deleted h.ids.items

-- the value beside a head: a deleted element keeps its length alone
abbrev pub beside : Bool → List Bool → List Bool
beside false bits = bits
beside true bits = replicate (length bits) false

pub record IsElement (p : Params) (e : Element) : Type 0 where
  pub head : IsHead (head_of_element e)
  pub long : length e.bits ≡ p.bits
  pub cleared : e.bits ≡ beside e.deleted e.bits

-- ---- tuples with a value

-- the bytes spell a tuple that has this value: of an element, of a list or of an entry
pub data HasValue (bytes : List ℕ) (bits : List Bool) : Type 0 where
  OfElement : (p : Params) (e : Element) → IsInRange p → IsElement p e → bytes ≡ element_bytes e → bits ≡ e.bits → HasValue bytes bits
  OfCentre : (p : Params) (c : CentreTuple) → IsInRange p → IsCentre p c → bytes ≡ centre_bytes c → bits ≡ c.bits → HasValue bytes bits
  OfEntry : (p : Params) (row : EntryRow) → IsInRange p → IsEntry p row → bytes ≡ entry_bytes row → bits ≡ row.bits → HasValue bytes bits
