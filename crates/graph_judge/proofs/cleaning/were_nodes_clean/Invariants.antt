use Rattle.std.proofs.Common.{◌↔◌}
use Rattle.std.specs.FinMap as map
use Rattle.graph_judge.specs.Knowable.{EachEntry, WasNodeClean}
use Rattle.graph_judge.proofs.cleaning.were_nodes_clean.Given as goal

-- what is left decides
abbrev pub invariant-loop-at : goal.invariant-loop-at
invariant-loop-at l = EachEntry (WasNodeClean l.states) l.at-iterator ↔ EachEntry (WasNodeClean l.states) (map.entries l.first.nodes)
