use Rattle.graph_judge.proofs.AllowedNodes.{end_by}
use Rattle.graph_judge.proofs.vacuum_rules.may_end.Goals as goal

pub returns-then-is_in_phase : goal.returns-then-is_in_phase
returns-then-is_in_phase c =
    let by = end_by c.args.course.now.base.now c.args.course.now.acts.now c.last.result.now c.last.ensures c.args.desk (c.is_in_phase.ensures.0 c.if-is_in_phase.true) in
    (λ t. by.0 (c.none_doomed.ensures.0 t), λ may. c.none_doomed.ensures.1 (by.1 may))
