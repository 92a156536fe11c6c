use Rattle.search_sets.proofs.Leaders.{joined_more}
use Rattle.search_sets.proofs.candidates.join.Goals as goal

pub loop-key-preserved : goal.loop-key-preserved
loop-key-preserved c = record {
  heap = c.in_ok-push.ensures.heap_order c.loop-key.invariant.heap;
  whole = joined_more _ c.args.far.now _ _ c.loop-key.key-index c.key-item.result c.loop-key-test.true c.key-item.is c.loop-key.invariant.whole c.in_ok-push.ensures.permutation;
}
