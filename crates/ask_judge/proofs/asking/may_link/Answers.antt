use Rattle.std.proofs.Common.{subst, arith}
use Rattle.vec_graph.specs.declared.graph.Graph.{Graph}
use Rattle.vec_graph.specs.Asking.{StandsSo}
use Rattle.ask_judge.proofs.AskedNodes.{link_by}
use Rattle.ask_judge.proofs.asking.may_link.Goals as goal

pub returns : goal.returns
returns c =
    let owner = c.args.owner in
    let stands = subst (λ (g : Graph). StandsSo g owner.at owner.list_at owner.level) c.last.ensures (c.stands_so.ensures.0 c.if-not-stands_so.false) in
    let by = link_by c.args.course.now.base.now c.args.course.now.acts.now c.args.desk owner.at owner.list_at owner.level c.args.layer c.args.slot c.args.to
    (c.holds.ensures.0 c.if-not-holds.false) stands (omega arith) (omega arith) in
    (λ t. by.0 (c.knows_up_to.ensures.0 t), λ may. c.knows_up_to.ensures.1 (by.1 may))
