use Rattle.std.proofs.Common.{◌≡◌, ◌≤◌, max}
use Rattle.std.specs.FinMap as fin
use Rattle.vec_graph.specs.Places.{greatest_off}
use Rattle.vec_graph.proofs.graph.Graph.next_off.Given as goal

abbrev pub invariant-loop-at : goal.invariant-loop-at
invariant-loop-at l = record {
  so_far : max l.last (greatest_off l.block l.at-iterator) ≡ greatest_off l.block (fin.entries l.self.nodes);
  small : l.last ≤ 65535;
}
