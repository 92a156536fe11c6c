use Rattle.vec_steps.specs.Calls.{HoldsNone}
use Rattle.operation_runs.proofs.job_tests.do_all.Given as goal

-- the desk holds no gate
abbrev pub invariant-line : goal.invariant-line
invariant-line g l = HoldsNone (g.S.Steps.seen l.steps) (g.S.Steps.desk l.steps).number
