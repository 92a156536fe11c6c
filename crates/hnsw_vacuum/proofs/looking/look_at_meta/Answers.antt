use Rattle.step_gates.proofs.Exits.{fails}
use Rattle.hnsw_vacuum.proofs.Stopped.{handed, stops_memory}
use Rattle.hnsw_vacuum.proofs.Pages.{meta_asks, meta_fails, meta_made, meta_there}
use Rattle.hnsw_vacuum.proofs.looking.look_at_meta.Goals as goal

pub returns-in_err-ask_step-clause-err : goal.returns-in_err-ask_step-clause-err
returns-in_err-ask_step-clause-err g c =
    handed _ c.from_residual.result (meta_fails c.in_err-ask_step.field-0.0 c.in_err-ask_step.ensures.err) c.from_residual.ensures.1

pub returns-in_err-push-clause-err : goal.returns-in_err-push-clause-err
returns-in_err-push-clause-err g c =
    fails c.from_residual-in_err-push.result (λ e is. stops_memory e is (meta_made c.in_ok-ask_step.ensures.ok)) c.from_residual-in_err-push.ensures.1

pub returns-clause-there : goal.returns-clause-there
returns-clause-there g c = λ base o.
    meta_there c.in_ok-ask_step.ensures.ok base (c.in_ok-ask_step.ensures.goes.still_stands base (meta_asks base o)) o
