use Rattle.layer_search.proofs.Looks.{fails}
use Rattle.hnsw_insert.proofs.Stopped.{step_fails}
use Rattle.hnsw_insert.proofs.Joins.{join_asks, join_stepped}
use Rattle.hnsw_insert.proofs.joining.join_one.Goals as goal

pub returns-in_err-step-clause-err : goal.returns-in_err-step-clause-err
returns-in_err-step-clause-err g c =
    fails c.from_residual.result
    (λ e is. step_fails c.in_err-step.field-0.0 e is (join_asks c.args.spot.at c.args.spot.version c.args.id c.requires.held) c.in_err-step.ensures.err)
    c.from_residual.ensures.1

pub returns-clause-ok : goal.returns-clause-ok
returns-clause-ok g c = join_stepped c.args.id c.args.spot c.joined_by.result c.requires.held c.joined_by.ensures c.in_ok-step.ensures.ok
