use Rattle.step_gates.proofs.Exits.{fails}
use Rattle.hnsw_vacuum.proofs.Stopped.{handed, stops_memory}
use Rattle.hnsw_vacuum.proofs.Glances.{node_fails, node_is, node_made}
use Rattle.hnsw_vacuum.proofs.seeking.look_at_node.Goals as goal

pub returns-in_err-ask_step-clause-err : goal.returns-in_err-ask_step-clause-err
returns-in_err-ask_step-clause-err g c =
    handed _ c.from_residual.result (node_fails c.args.at c.in_err-ask_step.field-0.0 c.in_err-ask_step.ensures.err) c.from_residual.ensures.1

pub returns-in_err-push-clause-err : goal.returns-in_err-push-clause-err
returns-in_err-push-clause-err g c =
    fails c.from_residual-in_err-push.result (λ e is. stops_memory e is (node_made c.args.at c.in_ok-ask_step.ensures.ok)) c.from_residual-in_err-push.ensures.1

pub returns-clause-is : goal.returns-clause-is
returns-clause-is g c = λ base o. node_is c.args.at c.in_ok-ask_step.ensures.ok base o
