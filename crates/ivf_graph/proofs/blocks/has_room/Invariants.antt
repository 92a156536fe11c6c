use Rattle.std.proofs.Common.{◌≡◌, ◌+◌, take}
use Rattle.ivf_graph.specs.Graph.{taken}
use Rattle.ivf_graph.proofs.blocks.has_room.Given as goal

abbrev pub invariant-loop-row : goal.invariant-loop-row
invariant-loop-row l = l.left + taken (take l.row-index l.rows) ≡ 8160
