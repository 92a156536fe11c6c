use Rattle.std.proofs.Common.{◌≡◌}
use Rattle.vec_recover.specs.Creating.{each_block}
use Rattle.vec_recover.proofs.creating.each_block.Given as goal

-- the blocks so far
abbrev pub invariant-loop-block : goal.invariant-loop-block
invariant-loop-block l = l.pairs.items ≡ each_block l.block 0
