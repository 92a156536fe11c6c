use Rattle.std.proofs.Common.{◌≡◌, ◌+◌, ◌-◌, slice_get, Some, refl, arith}
use Rattle.std.proofs.lemmas.Option.{slice_get_read}
use Rattle.graph_judge.proofs.CleanNodes.{cleaned_by_parts}
use Rattle.graph_judge.proofs.cleaning.were_cleaned.Goals as goal

pub returns-then-were_nodes_clean : goal.returns-then-were_nodes_clean
returns-then-were_nodes_clean c =
    let at : slice_get c.args.course.now.states.now c.args.low ≡ Some c.index-states-low.result =
    slice_get_read c.args.course.now.states.now _ _ _ refl (omega arith) c.index-states-low.is
    in
    let by = cleaned_by_parts c.args.course.now.base.now c.args.course.now.acts.now c.args.course.now.states.now c.args.low c.args.high (c.args.high + 1 - c.args.low) c.index-states-low.result
    c.args.course.now.are_states c.requires.in_order c.requires.within (omega arith) at
    in
    (λ t. by.0 (c.were_nodes_clean.ensures.0 c.if-were_nodes_clean.true, c.some_entry_clean.ensures.0 t), λ cleaned. c.some_entry_clean.ensures.1 (by.1 cleaned).1)

pub returns-else-were_nodes_clean : goal.returns-else-were_nodes_clean
returns-else-were_nodes_clean c =
    let at : slice_get c.args.course.now.states.now c.args.low ≡ Some c.index-states-low.result =
    slice_get_read c.args.course.now.states.now _ _ _ refl (omega arith) c.index-states-low.is
    in
    let by = cleaned_by_parts c.args.course.now.base.now c.args.course.now.acts.now c.args.course.now.states.now c.args.low c.args.high (c.args.high + 1 - c.args.low) c.index-states-low.result
    c.args.course.now.are_states c.requires.in_order c.requires.within (omega arith) at
    in
    (λ t. absurd (cc (t, c.if-were_nodes_clean.false)), λ cleaned. c.were_nodes_clean.ensures.1 (by.1 cleaned).0)
