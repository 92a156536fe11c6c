use Rattle.step_gates.proofs.Exits.{fails}
use Rattle.step_gates.proofs.Gated.{gate_taken, take_failed}
use Rattle.step_gates.proofs.taking.take_gate.Goals as goal

pub returns-in_err-step-clause-err : goal.returns-in_err-step-clause-err
returns-in_err-step-clause-err g c =
    fails c.from_residual.result (λ e is. take_failed c.in_err-step.field-0.0 e is c.args.gate c.args.hold c.requires.free c.in_err-step.ensures.err)
    c.from_residual.ensures.1

pub returns-clause-ok : goal.returns-clause-ok
returns-clause-ok g c = gate_taken c.args.gate c.args.hold c.requires.free c.in_ok-step.ensures.ok
