use Rattle.graph_pages.specs.Filling.{IsFilledTo}
use Rattle.graph_pages.proofs.nodes.nodes_of.Given as goal

abbrev pub invariant-loop-block : goal.invariant-loop-block
invariant-loop-block l = IsFilledTo l.params l.pages l.block 0 l.nodes
