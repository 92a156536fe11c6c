use Rattle.std.proofs.Common.{◌≡◌, ◌++◌, map, take, drop}
use Rattle.ivf_graph.specs.Effect.{with_rows, row_change}
use Rattle.ivf_graph.proofs.applying.change_block.Given as goal

abbrev pub invariant-loop-list : goal.invariant-loop-list
invariant-loop-list l = l.list-items ≡ map (with_rows l.block (row_change l.event)) (take l.list-index l.initial.list-items) ++ drop l.list-index l.initial.list-items
