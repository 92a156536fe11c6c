use Rattle.graph_judge.specs.Knowable.{WasNodeClean}
use Rattle.graph_judge.proofs.MapEntries.{passed}
use Rattle.graph_judge.proofs.cleaning.were_nodes_clean.Goals as goal

pub loop-at-preserved : goal.loop-at-preserved
loop-at-preserved c = passed (WasNodeClean c.args.states.now) _ _ _ _ _ c.in-Some.ensures.steps c.loop-at.invariant (c.was_node_clean.ensures.0 c.if-not-was_node_clean.false)
