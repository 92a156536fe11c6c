use Rattle.std.proofs.Common.{refl}
use Rattle.layer_search.proofs.Looks.{fails}
use Rattle.hnsw_insert.proofs.Stopped.{step_fails, stops_memory}
use Rattle.hnsw_insert.proofs.Under.{meta_asks, meta_blocks, meta_did}
use Rattle.hnsw_insert.proofs.course.look_at_meta.Goals as goal

pub returns-in_err-step-clause-err : goal.returns-in_err-step-clause-err
returns-in_err-step-clause-err g c =
    fails c.from_residual.result (λ e is. step_fails c.in_err-step.field-0.0 e is meta_asks c.in_err-step.ensures.err) c.from_residual.ensures.1

pub returns-in_err-push-clause-err : goal.returns-in_err-push-clause-err
returns-in_err-push-clause-err g c =
    let m = meta_did c.in_ok-step.ensures.ok c.args.trace.now.reads _ refl in
    fails c.from_residual-in_err-push.result (λ e is. stops_memory e is m.does m.is.only) c.from_residual-in_err-push.ensures.1

pub returns-clause-ok : goal.returns-clause-ok
returns-clause-ok g c = meta_did c.in_ok-step.ensures.ok _ _ c.in_ok-push.ensures.ok

pub returns-clause-blocks : goal.returns-clause-blocks
returns-clause-blocks g c = λ base o.
    let now = c.step.new.self in
    let st = c.in_ok-step.ensures.goes.still_stands base (meta_asks base o) in
    meta_blocks c.in_ok-step.ensures.ok base st (g.met.S.Steps.shaped now base st) (g.met.S.Steps.legal now base st) o
