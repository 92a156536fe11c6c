use Rattle.std.proofs.Common.{arith}
use Rattle.graph_judge.proofs.AllowedNodes.{no_entry_by}
use Rattle.graph_judge.proofs.linking_rules.may_have_no_entry.Goals as goal

pub returns : goal.returns
returns c =
    let alone = c.holds_alone.ensures.0 c.if-not-holds_alone.false in
    let by = no_entry_by c.args.course.now.base.now c.args.course.now.acts.now c.last.result.now c.last.ensures c.args.desk c.args.level alone (omega arith) in
    (λ t. by.0 (c.none_live.ensures.0 t), λ may. c.none_live.ensures.1 (by.1 may))
