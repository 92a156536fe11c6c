use Rattle.ask_judge.proofs.AskedNodes.{named_by}
use Rattle.ask_judge.proofs.asking.knows_named.Goals as goal

pub returns : goal.returns
returns c =
    let by = named_by c.args.course.now.base.now c.args.course.now.acts.now c.args.desk c.args.level c.args.lists.now in
    (λ t. by.0 (c.knows_members.ensures.0 t), λ k. c.knows_members.ensures.1 (by.1 k))
