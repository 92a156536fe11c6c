use Rattle.std.proofs.Common.{◌+◌, arith}
use Rattle.vec_board.proofs.DoomedPages.{items_more}
use Rattle.vec_board.proofs.doomed.doomed_on.Goals as goal

pub loop-before-preserved : goal.loop-before-preserved
loop-before-preserved c = record {
  told = items_more c.args.params.now c.args.page.now.items c.loop-before.before (c.loop-before.before + 1) c.loop-before.sum c.doomed_at-sum.result
      (omega arith) (omega (arith, c.loop-before-test.true, c.count-before-end.ensures)) c.loop-before.invariant.told c.doomed_at-sum.ensures.told;
  low = omega (arith, c.loop-before.invariant.low, c.doomed_at-sum.ensures.low);
}
