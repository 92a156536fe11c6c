use Rattle.std.proofs.Common.{◌↔◌}
use Rattle.std.specs.FinMap as map
use Rattle.graph_judge.specs.Knowable.{EachEntry}
use Rattle.graph_judge.proofs.MapEntries.{NotDoomed}
use Rattle.graph_judge.proofs.cleaning.none_doomed.Given as goal

-- what is left decides
abbrev pub invariant-loop-node : goal.invariant-loop-node
invariant-loop-node l = EachEntry NotDoomed l.node-iterator ↔ EachEntry NotDoomed (map.entries l.graph.nodes)
