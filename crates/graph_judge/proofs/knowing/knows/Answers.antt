use Rattle.graph_judge.proofs.KnownNodes.{known_by_hold}
use Rattle.graph_judge.proofs.knowing.knows.Goals as goal

pub returns-in-Some : goal.returns-in-Some
returns-in-Some c =
    let by_hold = known_by_hold c.args.course.now.base.now c.args.course.now.acts.now c.args.course.now.states.now c.args.desk c.args.at c.args.layer c.in-Some.field-0-0 c.in-Some.since c.args.course.now.are_states c.in-Some.ensures.since in
    (λ t. by_hold.0 (c.some_live.ensures.0 t), λ known. c.some_live.ensures.1 (by_hold.1 known))
