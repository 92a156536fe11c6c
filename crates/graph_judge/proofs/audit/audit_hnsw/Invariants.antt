use Rattle.std.proofs.Common.{take}
use Rattle.graph_judge.specs.Course.{AreStates}
use Rattle.vec_graph.specs.Legal.{IsLegal}
use Rattle.graph_judge.proofs.audit.audit_hnsw.Given as goal

abbrev pub invariant-loop-k : goal.invariant-loop-k
invariant-loop-k l = record {
  legal : IsLegal l.base (take l.k l.acts);
  are_states : AreStates l.base (take l.k l.acts) l.states.items;
}
