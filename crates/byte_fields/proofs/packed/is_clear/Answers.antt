use Rattle.std.proofs.Common.{sym}
use Rattle.byte_fields.proofs.Clear.{clear_told}
use Rattle.byte_fields.proofs.packed.is_clear.Goals as goal

pub returns : goal.returns
returns c = sym (clear_told c.args.count c.args.bytes.now c.is_packed.result c.requires.some c.requires.few c.requires.long c.is_packed.ensures)
