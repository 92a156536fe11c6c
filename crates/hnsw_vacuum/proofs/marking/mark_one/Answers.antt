use Rattle.std.proofs.Common.{sym, ◌∙◌}
use Rattle.vec_steps.proofs.Following.{goes_over}
use Rattle.hnsw_vacuum.proofs.Stopped.{handed, step_fails, stops_memory}
use Rattle.hnsw_vacuum.proofs.Marks.{due_deleted, due_fault, mark_due, mark_made, may_mark, node_deleted, node_marked, of_fault}
use Rattle.hnsw_vacuum.proofs.marking.mark_one.Goals as goal

pub returns-then-is_spent-clause-ok : goal.returns-then-is_spent-clause-ok
returns-then-is_spent-clause-ok g c =
    mark_due (g.S.Steps.seen c.args.steps.now) c.args.node c.args.tally c.now_due.result (sym c.is_spent.ensures ∙ c.if-is_spent.true) c.now_due.ensures

pub returns-then-is_spent-clause-deleted : goal.returns-then-is_spent-clause-deleted
returns-then-is_spent-clause-deleted g c = λ going base o. due_deleted c.args.tally c.now_due.result c.now_due.ensures going

pub returns-in_err-ask_step-clause-goes : goal.returns-in_err-ask_step-clause-goes
returns-in_err-ask_step-clause-goes g c = goes_over (may_mark c.args.node) c.in_err-ask_step.ensures.goes

pub returns-in_err-ask_step-clause-err : goal.returns-in_err-ask_step-clause-err
returns-in_err-ask_step-clause-err g c =
    handed _ c.from_residual.result (step_fails of_fault due_fault (may_mark c.args.node) c.in_err-ask_step.field-0.0 c.in_err-ask_step.ensures.err) c.from_residual.ensures.1

pub returns-in_err-counted-clause-goes : goal.returns-in_err-counted-clause-goes
returns-in_err-counted-clause-goes g c = goes_over (may_mark c.args.node) c.in_ok-ask_step.ensures.goes

pub returns-in_err-counted-clause-err : goal.returns-in_err-counted-clause-err
returns-in_err-counted-clause-err g c =
    handed _ c.from_residual-in_err-counted.result
    (stops_memory c.in_err-counted.field-0.0 c.in_err-counted.ensures.memory
    (mark_made c.args.node c.in_ok-ask_step.ensures.ok (λ base o. g.met.S.Steps.shaped c.args.steps.now base o.stood)
    (λ base o. g.met.S.Steps.legal c.ask_step.new.steps base (c.in_ok-ask_step.ensures.goes.still_stands base ((may_mark c.args.node) base o)))))
    c.from_residual-in_err-counted.ensures.1

pub returns-clause-goes : goal.returns-clause-goes
returns-clause-goes g c = goes_over (may_mark c.args.node) c.in_ok-ask_step.ensures.goes

pub returns-clause-ok : goal.returns-clause-ok
returns-clause-ok g c =
    node_marked c.args.node c.in_ok-ask_step.ensures.ok (λ base o. g.met.S.Steps.shaped c.args.steps.now base o.stood)
    (λ base o. g.met.S.Steps.legal c.ask_step.new.steps base (c.in_ok-ask_step.ensures.goes.still_stands base ((may_mark c.args.node) base o)))
    c.args.tally c.in_ok-counted.counted (sym c.is_spent.ensures ∙ c.if-is_spent.false) c.in_ok-counted.ensures.counted

pub returns-clause-deleted : goal.returns-clause-deleted
returns-clause-deleted g c = λ going base o.
    node_deleted c.args.node c.in_ok-ask_step.ensures.ok base (g.met.S.Steps.shaped c.args.steps.now base o.stood)
    (g.met.S.Steps.legal c.ask_step.new.steps base (c.in_ok-ask_step.ensures.goes.still_stands base ((may_mark c.args.node) base o))) o
