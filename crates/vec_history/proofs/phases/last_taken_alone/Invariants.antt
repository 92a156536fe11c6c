use Rattle.vec_history.specs.Deciding.{IsTakingAlone}
use Rattle.vec_history.specs.Acts.{NoneFrom}
use Rattle.vec_history.proofs.phases.last_taken_alone.Given as goal

abbrev pub invariant-loop-k : goal.invariant-loop-k
invariant-loop-k l = NoneFrom l.acts l.k (IsTakingAlone l.desk l.gate)
