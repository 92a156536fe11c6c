use Rattle.std.proofs.Common.{◌≡◌}
use Rattle.std.specs.Prelude.{find}
use Rattle.std.specs.FinMap as fin
use Rattle.vec_graph.specs.Places.{is_reusable}
use Rattle.vec_graph.proofs.graph.Graph.reused.Given as goal

abbrev pub invariant-loop-at : goal.invariant-loop-at
invariant-loop-at l = find (is_reusable l.block l.level) l.at-iterator ≡ find (is_reusable l.block l.level) (fin.entries l.self.nodes)
