use Rattle.vec_steps.specs.Calls.{HoldsNone}
use Rattle.worked_rows.proofs.examples.join.Given as goal

abbrev pub invariant-loop-row : goal.invariant-loop-row
invariant-loop-row g l = HoldsNone (g.S.Steps.seen l.steps) (g.S.Steps.desk l.steps).number
