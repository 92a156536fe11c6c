use Rattle.graph_judge.proofs.Repairing.{repaired_by_parts}
use Rattle.graph_judge.proofs.cleaning.is_cleaned_since.Goals as goal

pub returns-in-Some : goal.returns-in-Some
returns-in-Some c =
    let by = repaired_by_parts c.args.course.now.base.now c.args.course.now.acts.now c.args.desk c.args.begun c.args.first c.in-Some.barrier c.requires.phase c.requires.removed c.in-Some.ensures.last in
    (λ t. by.0 (c.were_cleaned.ensures.0 t), λ done. c.were_cleaned.ensures.1 (by.1 done))
