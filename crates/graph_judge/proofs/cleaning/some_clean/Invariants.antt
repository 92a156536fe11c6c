use Rattle.vec_graph.specs.Cleaning.{IsCleanAt}
use Rattle.graph_judge.proofs.Positions.{NoneBefore}
use Rattle.graph_judge.proofs.cleaning.some_clean.Given as goal

abbrev pub invariant-loop-graph : goal.invariant-loop-graph
invariant-loop-graph l = NoneBefore (λ g. IsCleanAt g l.at l.layer) l.states l.graph-index
