use Rattle.vec_recover.proofs.Created.{pairs_next}
use Rattle.vec_recover.proofs.creating.each_block.Goals as goal

pub loop-block-preserved : goal.loop-block-preserved
loop-block-preserved c = pairs_next c.loop-block.block c.loop-block.pairs.items c.push.new.self.items c.loop-block.invariant c.in_ok-push.ensures.items
