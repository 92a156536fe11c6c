use Rattle.layer_search.proofs.Looks.{fails}
use Rattle.hnsw_insert.proofs.Stopped.{step_fails}
use Rattle.hnsw_insert.proofs.Puts.{reserve_asks, reserved}
use Rattle.hnsw_insert.proofs.placing.reserve.Goals as goal

pub returns-in_err-step-clause-err : goal.returns-in_err-step-clause-err
returns-in_err-step-clause-err g c =
    fails c.from_residual.result (λ e is. step_fails c.in_err-step.field-0.0 e is (reserve_asks 1) c.in_err-step.ensures.err) c.from_residual.ensures.1

pub returns-clause-ok : goal.returns-clause-ok
returns-clause-ok g c = reserved 1 c.in_ok-step.ensures.ok
