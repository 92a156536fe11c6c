use Rattle.std.proofs.Common.{◌≡◌, ◌-◌}
use Rattle.std.specs.Prelude.{sum_by}
use Rattle.vec_graph.specs.Places.{taken_on, room}
use Rattle.vec_graph.proofs.graph.Graph.room.Given as goal

-- what the other nodes leave of the room so far
abbrev pub invariant-loop-at : goal.invariant-loop-at
invariant-loop-at l = l.room - sum_by (taken_on l.self l.block) l.at-iterator ≡ room l.self l.block
