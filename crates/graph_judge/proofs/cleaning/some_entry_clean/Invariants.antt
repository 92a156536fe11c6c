use Rattle.vec_graph.specs.Cleaning.{IsEntryClean}
use Rattle.graph_judge.proofs.Positions.{NoneBefore}
use Rattle.graph_judge.proofs.cleaning.some_entry_clean.Given as goal

abbrev pub invariant-loop-graph : goal.invariant-loop-graph
invariant-loop-graph l = NoneBefore IsEntryClean l.states l.graph-index
