use Rattle.std.proofs.Common.{◌∙◌}
use Rattle.vec_names.proofs.Pointers.{heap_id_option_in-again, heap_id_option_of-spelled}
use Rattle.vec_names.proofs.heap_id.HeapId.read_option.Goals as goal

pub returns-clause-spelled : goal.returns-clause-spelled
returns-clause-spelled c =
    rw c.parts_of-block.ensures.back (heap_id_option_of-spelled _ _ _ c.option_of.ensures)

pub returns-clause-all : goal.returns-clause-all
returns-clause-all c = λ named is.
    c.option_of.ensures ∙ rw (c.parts_of-block.ensures.block, c.parts_of-block.ensures.off, is) (heap_id_option_in-again named)
