-- The tuples of an index of lists are spelled in bytes.
use Rattle.std.proofs.Common.{◌≡◌, ◌∷◌, ◌++◌, length, arith}
use Rattle.std.specs.Int.{w32, to_le_bytes}
use Rattle.index_sizes.specs.Sizes.{centre_size}
use Rattle.vec_names.specs.Pointer.{pointer_bytes}
use Rattle.page_bytes.specs.Content.{IsItem}
use Rattle.vec_tuples.specs.declared.entry.EntryRow.{EntryRow}
use Rattle.vec_tuples.specs.declared.centre.CentreTuple.{CentreTuple}
use Rattle.vec_tuples.specs.Spelling.{bits_bytes, entry_bytes, centre_bytes}
use Rattle.vec_tuples.proofs.EachField.{packed_long}
use Rattle.page_redo.proofs.SpelledBytes.{AllBytes, one, both, word, pointer, value}
use Rattle.ivf_pages.proofs.RowRoom.{length-entry_bytes}

entry_all : (row : EntryRow) → AllBytes (entry_bytes row)
unfolding entry_bytes
entry_all row =
    both (pointer_bytes row.id.block row.id.off) (0 ∷ 0 ∷ bits_bytes row.bits) (pointer row.id.block row.id.off)
    (one 0 (0 ∷ bits_bytes row.bits) (omega arith) (one 0 (bits_bytes row.bits) (omega arith) (value row.bits)))

centre_all : (c : CentreTuple) → AllBytes (centre_bytes c)
unfolding centre_bytes
centre_all c =
    both (to_le_bytes w32 c.first) (to_le_bytes w32 c.aim ++ (0 ∷ 0 ∷ 0 ∷ 0 ∷ bits_bytes c.bits)) (word c.first)
    (both (to_le_bytes w32 c.aim) (0 ∷ 0 ∷ 0 ∷ 0 ∷ bits_bytes c.bits) (word c.aim)
    (one 0 (0 ∷ 0 ∷ 0 ∷ bits_bytes c.bits) (omega arith)
    (one 0 (0 ∷ 0 ∷ bits_bytes c.bits) (omega arith)
    (one 0 (0 ∷ bits_bytes c.bits) (omega arith) (one 0 (bits_bytes c.bits) (omega arith) (value c.bits))))))

pub length-centre_bytes : (c : CentreTuple) → length (centre_bytes c) ≡ centre_size (length c.bits)
unfolding centre_bytes
length-centre_bytes c = omega (arith, packed_long c.bits)

pub entry_item : (row : EntryRow) → IsItem (entry_bytes row)
entry_item row = record { some = omega (arith, length-entry_bytes row); bytes = entry_all row }

pub centre_item : (c : CentreTuple) → IsItem (centre_bytes c)
centre_item c = record { some = omega (arith, length-centre_bytes c); bytes = centre_all c }
