use Rattle.std.proofs.Common.{Some, refl}
use Rattle.layer_search.proofs.Looks.{ended_memory, fails, node_failed, node_looked}
use Rattle.hnsw_scan.proofs.taking.look_again.Goals as goal

pub returns-in_err-step-clause-err : goal.returns-in_err-step-clause-err
returns-in_err-step-clause-err g c =
    fails c.from_residual.result (λ e is. node_failed c.in_err-step.field-0.0 e is c.args.at 0 (Some c.args.version) c.in_err-step.ensures.err)
    c.from_residual.ensures.1

pub returns-in_err-push-clause-err : goal.returns-in_err-push-clause-err
returns-in_err-push-clause-err g c =
    fails c.from_residual-in_err-push.result
    (λ e is. ended_memory e is (node_looked {before = c.args.trace.now.reads} c.args.at 0 (Some c.args.version) c.in_ok-step.ensures.ok refl))
    c.from_residual-in_err-push.ensures.1

pub returns-clause-ok : goal.returns-clause-ok
returns-clause-ok g c = node_looked c.args.at 0 (Some c.args.version) c.in_ok-step.ensures.ok c.in_ok-push.ensures.ok
