use Rattle.graph_judge.proofs.AllowedNodes.{join_by}
use Rattle.graph_judge.proofs.node_rules.may_join.Goals as goal

pub returns-in-Some : goal.returns-in-Some
returns-in-Some c =
    let by = join_by c.args.course.now.base.now c.args.course.now.acts.now c.last.result.now c.last.ensures c.args.desk c.args.at c.args.version c.in-Some.node.now c.in-Some.ensures.found (c.holds.ensures.0 c.if-not-holds.false) in
    (λ t. by.0 (c.has_room_for_id.ensures.0 t), λ may. c.has_room_for_id.ensures.1 (by.1 may))
