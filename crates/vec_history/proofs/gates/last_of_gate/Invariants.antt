use Rattle.vec_history.specs.Deciding.{IsDeskOfGate}
use Rattle.vec_history.specs.Acts.{NoneFrom}
use Rattle.vec_history.proofs.gates.last_of_gate.Given as goal

abbrev pub invariant-loop-k : goal.invariant-loop-k
invariant-loop-k l = NoneFrom l.acts l.k (IsDeskOfGate l.desk l.gate)
