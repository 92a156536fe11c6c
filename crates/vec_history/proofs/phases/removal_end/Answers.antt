use Rattle.vec_history.proofs.Removing.{drops_before_removed}
use Rattle.vec_history.proofs.phases.removal_end.Goals as goal

pub returns-else-are_drops_before-clause-none : goal.returns-else-are_drops_before-clause-none
returns-else-are_drops_before-clause-none c allowed =
    let before = drops_before_removed c.args.acts.now c.args.desk _ _ allowed.0 c.in_ok-barrier.ensures.last allowed.1 in
    let t = c.are_drops_before.ensures.1 before in
    absurd (cc (c.if-are_drops_before.false, t))
