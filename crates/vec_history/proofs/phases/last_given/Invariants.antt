use Rattle.vec_history.specs.Deciding.{IsGivingBack}
use Rattle.vec_history.specs.Acts.{NoneFrom}
use Rattle.vec_history.proofs.phases.last_given.Given as goal

abbrev pub invariant-loop-k : goal.invariant-loop-k
invariant-loop-k l = NoneFrom l.acts l.k (IsGivingBack l.desk l.gate)
