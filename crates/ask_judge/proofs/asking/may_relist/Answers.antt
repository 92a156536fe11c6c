use Rattle.std.proofs.Common.{sym}
use Rattle.ask_judge.proofs.AskedNodes.{relist_by}
use Rattle.ask_judge.proofs.asking.may_relist.Goals as goal

pub returns : goal.returns
returns c =
    let by = relist_by c.args.course.now.base.now c.args.course.now.acts.now c.args.desk c.last.result.now c.last.ensures c.args.at c.args.list_at
    c.args.lists.now c.in-Some.node.now (sym c.in-Some.ensures) (c.holds.ensures.0 c.if-not-holds.false) (c.are_same.ensures.0 c.if-not-are_same.false)
    (c.has_slots.ensures.0 c.if-not-has_slots.false) in
    (λ t. by.0 (c.knows_named.ensures.0 t), λ k. c.knows_named.ensures.1 (by.1 k))
