use Rattle.layer_search.proofs.Looks.{fails}
use Rattle.vec_steps.proofs.Following.{goes_over}
use Rattle.hnsw_insert.proofs.Stopped.{step_fails}
use Rattle.hnsw_insert.proofs.NewNode.{may_enter}
use Rattle.hnsw_insert.proofs.Finish.{entered}
use Rattle.hnsw_insert.proofs.linking.enter.Goals as goal

pub returns-in_err-step-clause-goes : goal.returns-in_err-step-clause-goes
returns-in_err-step-clause-goes g c = goes_over (may_enter c.requires.held c.args.level c.args.place) c.in_err-step.ensures.goes

pub returns-in_err-step-clause-err : goal.returns-in_err-step-clause-err
returns-in_err-step-clause-err g c =
    fails c.from_residual.result
    (λ e is. step_fails c.in_err-step.field-0.0 e is (may_enter c.requires.held c.args.level c.args.place) c.in_err-step.ensures.err) c.from_residual.ensures.1

pub returns-clause-goes : goal.returns-clause-goes
returns-clause-goes g c = goes_over (may_enter c.requires.held c.args.level c.args.place) c.in_ok-step.ensures.goes

pub returns-clause-ok : goal.returns-clause-ok
returns-clause-ok g c =
    entered c.requires.held c.args.top c.args.place c.args.level c.is_higher.result c.is_higher.ensures c.if-not-is_higher.false c.in_ok-step.ensures.ok
