use Rattle.vec_history.specs.declared.gate.Gate.TheVariants.{Update}
use Rattle.vec_history.specs.Gates.{Holds}
use Rattle.operation_runs.proofs.drawing.insert_drawn.Given as goal

abbrev pub invariant-loop-number : goal.invariant-loop-number
invariant-loop-number g l = Holds (g.S.Steps.seen l.steps) (g.S.Steps.desk l.steps).number Update → ⊥
