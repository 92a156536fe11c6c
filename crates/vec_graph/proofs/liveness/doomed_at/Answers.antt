use Rattle.std.proofs.Common.{sym}
use Rattle.vec_graph.proofs.NodeWords.{doomed_by_node}
use Rattle.vec_graph.proofs.liveness.doomed_at.Goals as goal

pub returns-in-Some : goal.returns-in-Some
returns-in-Some c =
    let by_node = doomed_by_node c.args.graph.now c.args.at c.in-Some.node.now (sym c.in-Some.ensures) in
    (λ t. by_node.0 (c.is_doomed.ensures.0 t), λ d. c.is_doomed.ensures.1 (by_node.1 d))
