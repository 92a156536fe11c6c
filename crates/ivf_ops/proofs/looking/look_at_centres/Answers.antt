use Rattle.std.proofs.Common.{refl}
use Rattle.vec_steps.proofs.Following.{goes_over}
use Rattle.ivf_ops.proofs.Asking.{centres_ask, centres_looked, of_centres}
use Rattle.ivf_ops.proofs.Views.{ended_memory, fails, step_failed}
use Rattle.ivf_ops.proofs.looking.look_at_centres.Goals as goal

pub returns-in_err-step-clause-err : goal.returns-in_err-step-clause-err
returns-in_err-step-clause-err g c =
    let s = c.args.steps.now in
    fails c.from_residual.result
    (λ e is. step_failed c.in_err-step.field-0.0 e is (of_centres c.args.block)
    (λ base st. centres_ask c.args.block c.requires.lists c.requires.from c.requires.to base (g.met.S.Steps.index s base st) st)
    c.in_err-step.ensures.err) c.from_residual.ensures.1

pub returns-in_err-push-clause-err : goal.returns-in_err-push-clause-err
returns-in_err-push-clause-err g c =
    let s = c.args.steps.now in
    fails c.from_residual-in_err-push.result
    (λ e is. ended_memory e is (centres_looked {before = c.args.trace.now.reads} c.args.block
    (λ base st. centres_ask c.args.block c.requires.lists c.requires.from c.requires.to base (g.met.S.Steps.index s base st) st)
    c.in_ok-step.ensures.ok refl)) c.from_residual-in_err-push.ensures.1

pub returns-clause-ok : goal.returns-clause-ok
returns-clause-ok g c =
    let s = c.args.steps.now in
    centres_looked c.args.block
    (λ base st. centres_ask c.args.block c.requires.lists c.requires.from c.requires.to base (g.met.S.Steps.index s base st) st)
    c.in_ok-step.ensures.ok c.in_ok-push.ensures.ok

pub returns-in_err-step-clause-goes : goal.returns-in_err-step-clause-goes
returns-in_err-step-clause-goes g c =
    let s = c.args.steps.now in
    goes_over (λ base st. centres_ask c.args.block c.requires.lists c.requires.from c.requires.to base (g.met.S.Steps.index s base st) st)
    c.in_err-step.ensures.goes

pub returns-in_err-push-clause-goes : goal.returns-in_err-push-clause-goes
returns-in_err-push-clause-goes g c =
    let s = c.args.steps.now in
    goes_over (λ base st. centres_ask c.args.block c.requires.lists c.requires.from c.requires.to base (g.met.S.Steps.index s base st) st)
    c.in_ok-step.ensures.goes

pub returns-clause-goes : goal.returns-clause-goes
returns-clause-goes g c =
    let s = c.args.steps.now in
    goes_over (λ base st. centres_ask c.args.block c.requires.lists c.requires.from c.requires.to base (g.met.S.Steps.index s base st) st)
    c.in_ok-step.ensures.goes
