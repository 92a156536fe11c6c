use Rattle.std.proofs.Common.{sym}
use Rattle.bit_code.proofs.TalliedBytes.{view_count}
use Rattle.bit_code.proofs.bits.Bits.count.Goals as goal

pub returns-clause-count : goal.returns-clause-count
returns-clause-count c = sym (view_count _ _ _ c.self.view_is c.self.invariant)
