use Rattle.vec_recover.specs.Creating.{AreAllBlocks}
use Rattle.vec_recover.proofs.creating.all_blocks.Given as goal

-- the blocks so far
abbrev pub invariant-loop-block : goal.invariant-loop-block
invariant-loop-block l = AreAllBlocks l.block l.list.items
