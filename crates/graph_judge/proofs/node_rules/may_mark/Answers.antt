use Rattle.graph_judge.proofs.AllowedNodes.{mark_by}
use Rattle.graph_judge.proofs.node_rules.may_mark.Goals as goal

pub returns-then-are_same : goal.returns-then-are_same
returns-then-are_same c =
    let phase = c.is_in_phase.ensures.0 c.if-not-is_in_phase.false in
    let listed = c.are_same.ensures.0 c.if-are_same.true in
    let by = mark_by c.args.course.now.base.now c.args.course.now.acts.now c.last.result.now c.last.ensures c.args.desk c.args.place.at c.args.place.list_at c.args.place.version c.in-Some.node.now c.in-Some.ensures.found phase in
    (λ t. by.0 (listed, c.is_doomed.ensures.0 t), λ may. c.is_doomed.ensures.1 (by.1 may).1)
