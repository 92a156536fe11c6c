use Rattle.std.proofs.Common.{◌∙◌}
use Rattle.vec_names.proofs.Pointers.{heap_id_in-again, heap_id_of-spelled}
use Rattle.vec_names.proofs.heap_id.HeapId.read.Goals as goal

pub returns-clause-spelled : goal.returns-clause-spelled
returns-clause-spelled c =
    rw c.parts_of-block.ensures.back (heap_id_of-spelled _ _ _ c.new.ensures.exact)

pub returns-clause-all : goal.returns-clause-all
returns-clause-all c = λ named is.
    c.new.ensures.exact ∙ rw (c.parts_of-block.ensures.block, c.parts_of-block.ensures.off, is) (heap_id_in-again named)
