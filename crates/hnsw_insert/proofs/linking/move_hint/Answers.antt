use Rattle.layer_search.proofs.Looks.{fails}
use Rattle.vec_steps.proofs.Following.{goes_over}
use Rattle.hnsw_insert.proofs.Stopped.{step_fails}
use Rattle.hnsw_insert.proofs.NewNode.{may_hint}
use Rattle.hnsw_insert.proofs.Finish.{hinted}
use Rattle.hnsw_insert.proofs.linking.move_hint.Goals as goal

pub returns-in_err-step-clause-goes : goal.returns-in_err-step-clause-goes
returns-in_err-step-clause-goes g c =
    let s = c.args.steps.now in
    goes_over (λ base o. may_hint c.requires.held c.args.level c.args.place base (g.met.S.Steps.shaped s base o.stood) (g.met.S.Steps.legal s base o.stood) o)
    c.in_err-step.ensures.goes

pub returns-in_err-step-clause-err : goal.returns-in_err-step-clause-err
returns-in_err-step-clause-err g c =
    let s = c.args.steps.now in
    fails c.from_residual.result
    (λ e is. step_fails c.in_err-step.field-0.0 e is
    (λ base o. may_hint c.requires.held c.args.level c.args.place base (g.met.S.Steps.shaped s base o.stood) (g.met.S.Steps.legal s base o.stood) o)
    c.in_err-step.ensures.err) c.from_residual.ensures.1

pub returns-clause-goes : goal.returns-clause-goes
returns-clause-goes g c =
    let s = c.args.steps.now in
    goes_over (λ base o. may_hint c.requires.held c.args.level c.args.place base (g.met.S.Steps.shaped s base o.stood) (g.met.S.Steps.legal s base o.stood) o)
    c.in_ok-step.ensures.goes

pub returns-clause-ok : goal.returns-clause-ok
returns-clause-ok g c =
    let s = c.args.steps.now in
    hinted c.requires.held c.args.hint c.args.place c.args.level c.moves_hint.result c.moves_hint.ensures c.if-not-moves_hint.false (g.met.S.Steps.shaped s) (g.met.S.Steps.legal s)
    c.in_ok-step.ensures.ok
