use Rattle.step_gates.proofs.Exits.{fails}
use Rattle.std.proofs.Common.{◌≡◌, map, subst, sym}
use Rattle.std.specs.Prelude.{List}
use Rattle.vec_graph.specs.Effect.{after}
use Rattle.graph_search.specs.Reads.{nodes_on}
use Rattle.vec_steps.specs.declared.seen.Seen.{Seen}
use Rattle.vec_steps.specs.Telling.{seen_told}
use Rattle.hnsw_vacuum.specs.Courses.{IsGraphSo}
use Rattle.hnsw_vacuum.proofs.Stopped.{handed, stops_memory}
use Rattle.hnsw_vacuum.proofs.PageLooks.{nodes_are, nodes_fail, nodes_made}
use Rattle.hnsw_vacuum.proofs.seeking.look_at_nodes.Goals as goal

pub returns-in_err-ask_step-clause-err : goal.returns-in_err-ask_step-clause-err
returns-in_err-ask_step-clause-err g c =
    handed _ c.from_residual.result (nodes_fail c.args.block c.in_err-ask_step.field-0.0 c.in_err-ask_step.ensures.err) c.from_residual.ensures.1

pub returns-in_err-push-clause-err : goal.returns-in_err-push-clause-err
returns-in_err-push-clause-err g c =
    fails c.from_residual-in_err-push.result (λ e is. stops_memory e is (nodes_made c.args.block c.in_ok-ask_step.ensures.ok)) c.from_residual-in_err-push.ensures.1

pub returns-clause-are : goal.returns-clause-are
returns-clause-are g c = λ base o.
    subst (λ (l : List Seen). IsGraphSo (λ h. map seen_told l ≡ nodes_on (after h (g.S.Steps.seen c.ask_step.new.steps)) c.args.block) base)
    (sym c.swap.ensures.x_after) (nodes_are c.args.block c.in_ok-ask_step.ensures.ok base o)
