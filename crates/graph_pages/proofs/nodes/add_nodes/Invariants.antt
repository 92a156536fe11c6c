use Rattle.graph_pages.specs.Filling.{IsFilledTo}
use Rattle.graph_pages.proofs.nodes.add_nodes.Given as goal

abbrev pub invariant-loop-i : goal.invariant-loop-i
invariant-loop-i l = IsFilledTo l.params l.pages l.block l.i l.nodes
