use Rattle.vec_history.specs.Deciding.{IsActDrop}
use Rattle.vec_history.specs.Acts.{NoneFrom}
use Rattle.vec_history.proofs.phases.last_drop.Given as goal

abbrev pub invariant-loop-k : goal.invariant-loop-k
invariant-loop-k l = NoneFrom l.acts l.k IsActDrop
