use Rattle.std.proofs.Common.{◌↔◌}
use Rattle.std.specs.FinMap as map
use Rattle.graph_judge.specs.Knowable.{EachEntry}
use Rattle.graph_judge.proofs.MapEntries.{NotLive}
use Rattle.graph_judge.proofs.cleaning.none_live.Given as goal

-- what is left decides
abbrev pub invariant-loop-node : goal.invariant-loop-node
invariant-loop-node l = EachEntry NotLive l.node-iterator ↔ EachEntry NotLive (map.entries l.graph.nodes)
