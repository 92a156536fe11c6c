use Rattle.std.proofs.Common.{◌≡◌, ◌++◌, map, take, drop}
use Rattle.ivf_graph.specs.Effect.{changed_part, row_change}
use Rattle.ivf_graph.proofs.applying.change_list.Given as goal

abbrev pub invariant-loop-part : goal.invariant-loop-part
invariant-loop-part l = l.part-items ≡ map (changed_part l.block (row_change l.event)) (take l.part-index l.initial.part-items) ++ drop l.part-index l.initial.part-items
