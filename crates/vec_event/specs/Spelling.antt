-- The one spelling of each lasting event: its kind, and its fields in their order. Numbers are little-endian.
use Rattle.std.specs.Prelude.{◌≡◌, ℕ, ◌<◌, ◌≤◌, ◌^◌, Bool, true, List, [], ◌∷◌, ◌++◌, length, Option, Some, None, ⊤, All}
use Rattle.std.specs.List.{flat_map}
use Rattle.std.specs.Int.{w16, w32, to_le_bytes}
use Rattle.index_sizes.specs.declared.limits.TheConstants.{LAST_BLOCK, MOST_BITS, MOST_BLOCKS, MOST_SLOTS}
use Rattle.bit_code.specs.Places.{packed}
use Rattle.vec_names.specs.declared.tid.Tid.{Tid}
use Rattle.vec_names.specs.Pointer.{tid_bytes, tid_option_bytes, heap_id_bytes}
use Rattle.byte_fields.specs.Levels.{is_level}
use Rattle.vec_history.specs.declared.event.Event.{Event}
use Rattle.vec_history.specs.declared.event.Event.TheVariants.{Put, Join, Link, Relist, Drop, Mark, Entry, Hint, IvfAdd, IvfGrow, IvfDrop, IvfHint, Gate, Ungate, Phase, VacuumEnd, Cancel, Settled, DiskFaulted}

-- ---- the spelling

-- a bit value: four bytes of its count of places, and the packed places
abbrev pub bits_bytes : List Bool → List ℕ
bits_bytes bits = to_le_bytes w32 (length bits) ++ packed bits

-- two bytes of a count, and that many optional places
abbrev pub lists_bytes : List (Option Tid) → List ℕ
lists_bytes places = to_le_bytes w16 (length places) ++ flat_map tid_option_bytes places

-- two bytes of a count, and that many offsets of two bytes
abbrev pub offsets_bytes : List ℕ → List ℕ
offsets_bytes offsets = to_le_bytes w16 (length offsets) ++ flat_map (to_le_bytes w16) offsets

-- a passing event has none
unfoldable pub spelling : Event → List ℕ
spelling (Put at list_at version level id bits lists) =
    1 ∷ tid_bytes at ++ (tid_bytes list_at ++ (version ∷ level ∷ heap_id_bytes id ++ (bits_bytes bits ++ lists_bytes lists)))
spelling (Join at version id) = 2 ∷ tid_bytes at ++ (version ∷ heap_id_bytes id)
spelling (Link at list_at version slot to) = 3 ∷ tid_bytes at ++ (tid_bytes list_at ++ (version ∷ to_le_bytes w16 slot ++ tid_bytes to))
spelling (Relist at list_at version lists) = 4 ∷ tid_bytes at ++ (tid_bytes list_at ++ (version ∷ lists_bytes lists))
spelling (Drop at version gone) = 5 ∷ tid_bytes at ++ (version ∷ to_le_bytes w16 gone)
spelling (Mark at list_at version) = 6 ∷ tid_bytes at ++ (tid_bytes list_at ++ (version ∷ []))
spelling (Entry to level) = 7 ∷ tid_option_bytes to ++ (level ∷ [])
spelling (Hint block) = 8 ∷ to_le_bytes w32 block
spelling (IvfAdd block id bits) = 9 ∷ to_le_bytes w32 block ++ (heap_id_bytes id ++ bits_bytes bits)
spelling (IvfGrow list last block id bits) =
    10 ∷ to_le_bytes w32 list ++ (to_le_bytes w32 last ++ (to_le_bytes w32 block ++ (heap_id_bytes id ++ bits_bytes bits)))
spelling (IvfDrop block gone) = 11 ∷ to_le_bytes w32 block ++ offsets_bytes gone
spelling (IvfHint list block) = 12 ∷ to_le_bytes w32 list ++ to_le_bytes w32 block
spelling (Gate gate hold) = []
spelling (Ungate gate) = []
spelling (Phase stage) = []
spelling VacuumEnd = []
spelling (Cancel stage) = []
spelling (Settled upto) = []
spelling (DiskFaulted count) = []

-- ---- which events have one

-- each offset is above the one before, the first above `low`
abbrev pub RisesFrom : ℕ → List ℕ → Type 0
RisesFrom low [] = ⊤
RisesFrom low (x ∷ xs) = (low < x) × RisesFrom x xs

-- a lasting event with no value that is not allowed
unfoldable pub IsWritable : Event → Type 0
IsWritable (Put at list_at version level id bits lists) = (1 ≤ version) × (length lists ≤ MOST_SLOTS)
IsWritable (Join at version id) = 1 ≤ version
IsWritable (Link at list_at version slot to) = 1 ≤ version
IsWritable (Relist at list_at version lists) = (1 ≤ version) × (length lists ≤ MOST_SLOTS)
IsWritable (Drop at version gone) = (1 ≤ version) × (1 ≤ gone) × (gone ≤ 1023)
IsWritable (Mark at list_at version) = 1 ≤ version
IsWritable (Entry to level) = is_level to level ≡ true
IsWritable (Hint block) = block ≤ MOST_BLOCKS
IsWritable (IvfAdd block id bits) = block ≤ LAST_BLOCK
IsWritable (IvfGrow list last block id bits) = (list ≤ LAST_BLOCK) × (last ≤ LAST_BLOCK) × (block ≤ LAST_BLOCK)
IsWritable (IvfDrop block gone) = (block ≤ LAST_BLOCK) × (1 ≤ length gone) × RisesFrom 0 gone
IsWritable (IvfHint list block) = (list ≤ LAST_BLOCK) × (block ≤ LAST_BLOCK)
IsWritable (Gate gate hold) = ⊥
IsWritable (Ungate gate) = ⊥
IsWritable (Phase stage) = ⊥
IsWritable VacuumEnd = ⊥
IsWritable (Cancel stage) = ⊥
IsWritable (Settled upto) = ⊥
IsWritable (DiskFaulted count) = ⊥

-- a bit value has 1 to 64,000 places
abbrev pub AreBits : List Bool → Type 0
AreBits bits = (1 ≤ length bits) × (length bits ≤ MOST_BITS)

-- what the types of the fields keep of an event: each number fits its bytes, and bit values have their length
unfoldable pub IsTyped : Event → Type 0
IsTyped (Put at list_at version level id bits lists) = (version < 2 ^ 8) × (level < 2 ^ 8) × AreBits bits
IsTyped (Join at version id) = version < 2 ^ 8
IsTyped (Link at list_at version slot to) = (version < 2 ^ 8) × (slot < 2 ^ 16)
IsTyped (Relist at list_at version lists) = version < 2 ^ 8
IsTyped (Drop at version gone) = version < 2 ^ 8
IsTyped (Mark at list_at version) = version < 2 ^ 8
IsTyped (Entry to level) = level < 2 ^ 8
IsTyped (Hint block) = ⊤
IsTyped (IvfAdd block id bits) = AreBits bits
IsTyped (IvfGrow list last block id bits) = AreBits bits
IsTyped (IvfDrop block gone) = All (λ off. off < 2 ^ 16) gone
IsTyped (IvfHint list block) = ⊤
IsTyped (Gate gate hold) = ⊤
IsTyped (Ungate gate) = ⊤
IsTyped (Phase stage) = ⊤
IsTyped VacuumEnd = ⊤
IsTyped (Cancel stage) = ⊤
IsTyped (Settled upto) = upto < 2 ^ 64
IsTyped (DiskFaulted count) = count < 2 ^ 64
