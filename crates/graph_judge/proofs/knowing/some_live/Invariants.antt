use Rattle.vec_graph.specs.Graph.{IsLiveAt}
use Rattle.graph_judge.proofs.Positions.{NoneBefore}
use Rattle.graph_judge.proofs.knowing.some_live.Given as goal

abbrev pub invariant-loop-graph : goal.invariant-loop-graph
invariant-loop-graph l = NoneBefore (λ g. IsLiveAt g l.at l.layer) l.states l.graph-index
