use Rattle.vec_tuples.specs.Spelling.{links_with}
use Rattle.std.proofs.Common.{false, arith}
use Rattle.vec_tuples.proofs.SlotPlaces.{length-links_bytes}
use Rattle.page_redo.proofs.new_node.links_long.Goals as goal

pub returns-clause-spelled : goal.returns-clause-spelled
returns-clause-spelled c = λ version. omega (arith, length-links_bytes (links_with false version c.args.slots.now))
