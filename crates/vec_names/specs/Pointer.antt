-- The six bytes that name an item: the high half of its block, the low half, and its offset, each of two bytes with the low one first.
use Rattle.std.specs.Prelude.{ℕ, ◌+◌, ◌*◌, ◌/◌, ◌%◌, ◌==◌, ◌&&◌, if◌then◌else◌, List, ◌++◌, take, drop, Option, Some, None}
use Rattle.std.specs.Option.{option_map}
use Rattle.std.specs.Int.{w16, to_le_bytes, from_le_bytes}
use Rattle.vec_names.specs.declared.tid.Tid.{Tid}
use Rattle.vec_names.specs.declared.heap_id.HeapId.{HeapId}
use Rattle.vec_names.specs.Places.{tid_of, heap_id_of}

unfoldable pub pointer_bytes : ℕ → ℕ → List ℕ
pointer_bytes block off = to_le_bytes w16 (block / 65536) ++ to_le_bytes w16 (block % 65536) ++ to_le_bytes w16 off

-- no block has this number, so with the offset 0 it spells that there is no item
abbrev pub no_block : ℕ
no_block = 0xFFFFFFFF

abbrev pub tid_bytes : Tid → List ℕ
tid_bytes t = pointer_bytes t.block t.off

abbrev pub tid_option_bytes : Option Tid → List ℕ
tid_option_bytes None = pointer_bytes no_block 0
tid_option_bytes (Some t) = tid_bytes t

abbrev pub heap_id_bytes : HeapId → List ℕ
heap_id_bytes id = pointer_bytes id.block id.off

abbrev pub heap_id_option_bytes : Option HeapId → List ℕ
heap_id_option_bytes None = pointer_bytes no_block 0
heap_id_option_bytes (Some id) = heap_id_bytes id

-- what two numbers name: an item, or that there is none

unfoldable pub tid_option_of : ℕ → ℕ → Option (Option Tid)
tid_option_of block off = if (block == no_block) && (off == 0) then Some None else option_map (λ t. Some t) (tid_of block off)

unfoldable pub heap_id_option_of : ℕ → ℕ → Option (Option HeapId)
heap_id_option_of block off = if (block == no_block) && (off == 0) then Some None else option_map (λ id. Some id) (heap_id_of block off)

-- what six bytes name

unfoldable pub block_in : List ℕ → ℕ
block_in bytes = 65536 * from_le_bytes w16 (take 2 bytes) + from_le_bytes w16 (take 2 (drop 2 bytes))

unfoldable pub off_in : List ℕ → ℕ
off_in bytes = from_le_bytes w16 (drop 4 bytes)

abbrev pub tid_in : List ℕ → Option Tid
tid_in bytes = tid_of (block_in bytes) (off_in bytes)

abbrev pub tid_option_in : List ℕ → Option (Option Tid)
tid_option_in bytes = tid_option_of (block_in bytes) (off_in bytes)

abbrev pub heap_id_in : List ℕ → Option HeapId
heap_id_in bytes = heap_id_of (block_in bytes) (off_in bytes)

abbrev pub heap_id_option_in : List ℕ → Option (Option HeapId)
heap_id_option_in bytes = heap_id_option_of (block_in bytes) (off_in bytes)
