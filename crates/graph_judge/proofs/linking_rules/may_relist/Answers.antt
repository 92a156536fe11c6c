use Rattle.std.proofs.Common.{arith}
use Rattle.graph_judge.proofs.AllowedNodes.{relist_by}
use Rattle.graph_judge.proofs.linking_rules.may_relist.Goals as goal

pub returns : goal.returns
returns c =
    let update = c.holds.ensures.0 c.if-not-holds.false in
    let listed = c.are_same.ensures.0 c.if-not-are_same.false in
    let by = relist_by c.args.course.now.base.now c.args.course.now.acts.now c.last.result.now c.last.ensures c.args.desk c.args.place.at c.args.place.list_at c.args.place.version c.args.lists.now
    c.in-Some.owner.now c.in-Some.ensures.found update listed (omega arith) in
    (λ t. by.0 (c.knows_members.ensures.0 t), λ may. c.knows_members.ensures.1 (by.1 may))
