use Rattle.std.proofs.Common.{◌∷◌, ◌++◌}
use Rattle.std.specs.Int.{w32, to_le_bytes}
use Rattle.vec_tuples.specs.Spelling.{length_word}
use Rattle.vec_tuples.proofs.EachField.{row_six}
use Rattle.vec_tuples.proofs.entry.front_of_entry.Goals as goal

pub returns : goal.returns
returns c =
    rw (c.spelled-i.ensures, c.to_le_bytes-w.ensures, c.length_word.ensures, c.to_le_bytes-c.ensures)
    (row_six c.args.id (0 ∷ 0 ∷ to_le_bytes w32 (length_word c.args.count) ++ to_le_bytes w32 c.args.count))
