use Rattle.std.proofs.Common.{sym, subst}
use Rattle.vec_steps.specs.Desks.{Desk}
use Rattle.vec_steps.specs.Calls.{HoldsNone}
use Rattle.operation_runs.proofs.job_tests.done.Goals as goal

pub returns : goal.returns
returns g c = record {
  gates = subst (λ (d : Desk). HoldsNone (g.S.Steps.seen c.one.new.steps) d.number) (sym c.one.ensures.goes.stays) c.in_ok-one.ensures.gates;
}
