use Rattle.std.proofs.Common.{◌≡◌}
use Rattle.vec_graph.proofs.Copies.{put_all}
use Rattle.vec_graph.proofs.graph.nodes_of.Given as goal

-- with what is left put in, the copy is the map
abbrev pub invariant-loop-place : goal.invariant-loop-place
invariant-loop-place l = put_all l.copy l.place-iterator ≡ l.nodes
