use Rattle.step_gates.proofs.Exits.{fails}
use Rattle.step_gates.proofs.Gated.{gate_given, give_failed}
use Rattle.step_gates.proofs.taking.give_back.Goals as goal

pub returns-in_err-step-clause-err : goal.returns-in_err-step-clause-err
returns-in_err-step-clause-err g c =
    fails c.from_residual.result (λ e is. give_failed c.in_err-step.field-0.0 e is c.args.gate c.requires.held c.requires.no_vacuum c.in_err-step.ensures.err)
    c.from_residual.ensures.1

pub returns-clause-ok : goal.returns-clause-ok
returns-clause-ok g c = gate_given c.args.gate c.requires.held c.requires.no_vacuum c.in_ok-step.ensures.ok
