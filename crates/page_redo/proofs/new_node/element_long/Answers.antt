use Rattle.std.proofs.Common.{arith}
use Rattle.vec_tuples.specs.Spelling.{element_with}
use Rattle.page_redo.proofs.Lengths.{length-element_bytes}
use Rattle.page_redo.proofs.new_node.element_long.Goals as goal

pub returns-clause-spelled : goal.returns-clause-spelled
returns-clause-spelled c = λ h. omega (arith, length-element_bytes (element_with h c.args.bits.now), c.count.ensures.count)
