use Rattle.std.proofs.Common.{sym, subst, ◌∙◌}
use Rattle.vec_steps.specs.Telling.{seen_told}
use Rattle.vec_steps.proofs.Following.{goes_over}
use Rattle.hnsw_vacuum.specs.Masks.{IsMaskOf}
use Rattle.hnsw_vacuum.proofs.Stopped.{handed, step_fails, stops_memory}
use Rattle.hnsw_vacuum.proofs.Drops.{dead_dropped, dead_fault, drop_due, drop_made, may_drop, none_dead, none_of_deleted, of_fault}
use Rattle.hnsw_vacuum.proofs.Sees.{alive_seen, deleted_seen, due_seen, node_seen}
use Rattle.hnsw_vacuum.proofs.dropping.drop_dead.Goals as goal

pub returns-then-seen-clause-ok : goal.returns-then-seen-clause-ok
returns-then-seen-clause-ok g c = none_of_deleted (λ id b. g.F.Fn.post c.args.dead.now (id, tt) b) (g.S.Steps.seen c.args.steps.now) (seen_told c.args.seen.now) c.args.tally c.if-seen.true

pub returns-then-mask-eq0-clause-ok : goal.returns-then-mask-eq0-clause-ok
returns-then-mask-eq0-clause-ok g c =
    none_dead (λ id b. g.F.Fn.post c.args.dead.now (id, tt) b) (g.S.Steps.seen c.args.steps.now) (seen_told c.args.seen.now) c.judge-mask.result c.args.tally c.if-seen.false
    (subst (λ l. IsMaskOf (λ id b. g.F.Fn.post c.args.dead.now (id, tt) b) l c.judge-mask.result) c.as_slice.ensures.value c.judge-mask.ensures) c.if-mask-eq0.true

pub returns-then-is_spent-clause-ok : goal.returns-then-is_spent-clause-ok
returns-then-is_spent-clause-ok g c =
    drop_due (λ id b. g.F.Fn.post c.args.dead.now (id, tt) b) (g.S.Steps.seen c.args.steps.now) (seen_told c.args.seen.now) c.judge-mask.result c.args.tally c.now_due.result c.if-seen.false
    (subst (λ l. IsMaskOf (λ id b. g.F.Fn.post c.args.dead.now (id, tt) b) l c.judge-mask.result) c.as_slice.ensures.value c.judge-mask.ensures) c.if-mask-eq0.false
    (sym c.is_spent.ensures ∙ c.if-is_spent.true) c.now_due.ensures

pub returns-in_err-ask_step-clause-goes : goal.returns-in_err-ask_step-clause-goes
returns-in_err-ask_step-clause-goes g c = goes_over (may_drop (λ id b. g.F.Fn.post c.args.dead.now (id, tt) b) (seen_told c.args.seen.now) c.judge-mask.result c.if-seen.false (subst (λ l. IsMaskOf (λ id b. g.F.Fn.post c.args.dead.now (id, tt) b) l c.judge-mask.result) c.as_slice.ensures.value c.judge-mask.ensures) c.if-mask-eq0.false) c.in_err-ask_step.ensures.goes

pub returns-in_err-ask_step-clause-err : goal.returns-in_err-ask_step-clause-err
returns-in_err-ask_step-clause-err g c =
    handed _ c.from_residual.result
    (step_fails of_fault (dead_fault (λ id b. g.F.Fn.post c.args.dead.now (id, tt) b))
    (may_drop (λ id b. g.F.Fn.post c.args.dead.now (id, tt) b) (seen_told c.args.seen.now) c.judge-mask.result c.if-seen.false (subst (λ l. IsMaskOf (λ id b. g.F.Fn.post c.args.dead.now (id, tt) b) l c.judge-mask.result) c.as_slice.ensures.value c.judge-mask.ensures) c.if-mask-eq0.false)
    c.in_err-ask_step.field-0.0 c.in_err-ask_step.ensures.err)
    c.from_residual.ensures.1

pub returns-in_err-counted-clause-goes : goal.returns-in_err-counted-clause-goes
returns-in_err-counted-clause-goes g c = goes_over (may_drop (λ id b. g.F.Fn.post c.args.dead.now (id, tt) b) (seen_told c.args.seen.now) c.judge-mask.result c.if-seen.false (subst (λ l. IsMaskOf (λ id b. g.F.Fn.post c.args.dead.now (id, tt) b) l c.judge-mask.result) c.as_slice.ensures.value c.judge-mask.ensures) c.if-mask-eq0.false) c.in_ok-ask_step.ensures.goes

pub returns-in_err-counted-clause-err : goal.returns-in_err-counted-clause-err
returns-in_err-counted-clause-err g c =
    handed _ c.from_residual-in_err-counted.result
    (stops_memory c.in_err-counted.field-0.0 c.in_err-counted.ensures.memory
    (drop_made (λ id b. g.F.Fn.post c.args.dead.now (id, tt) b) (seen_told c.args.seen.now) c.judge-mask.result c.if-seen.false (subst (λ l. IsMaskOf (λ id b. g.F.Fn.post c.args.dead.now (id, tt) b) l c.judge-mask.result) c.as_slice.ensures.value c.judge-mask.ensures) c.if-mask-eq0.false c.in_ok-ask_step.ensures.ok (λ base o. g.met.S.Steps.shaped c.args.steps.now base o.stood) (λ base o. g.met.S.Steps.legal c.ask_step.new.steps base (c.in_ok-ask_step.ensures.goes.still_stands base ((may_drop (λ id b. g.F.Fn.post c.args.dead.now (id, tt) b) (seen_told c.args.seen.now) c.judge-mask.result c.if-seen.false (subst (λ l. IsMaskOf (λ id b. g.F.Fn.post c.args.dead.now (id, tt) b) l c.judge-mask.result) c.as_slice.ensures.value c.judge-mask.ensures) c.if-mask-eq0.false) base o)))))
    c.from_residual-in_err-counted.ensures.1

pub returns-clause-goes : goal.returns-clause-goes
returns-clause-goes g c = goes_over (may_drop (λ id b. g.F.Fn.post c.args.dead.now (id, tt) b) (seen_told c.args.seen.now) c.judge-mask.result c.if-seen.false (subst (λ l. IsMaskOf (λ id b. g.F.Fn.post c.args.dead.now (id, tt) b) l c.judge-mask.result) c.as_slice.ensures.value c.judge-mask.ensures) c.if-mask-eq0.false) c.in_ok-ask_step.ensures.goes

pub returns-clause-ok : goal.returns-clause-ok
returns-clause-ok g c =
    dead_dropped (λ id b. g.F.Fn.post c.args.dead.now (id, tt) b) (seen_told c.args.seen.now) c.judge-mask.result c.if-seen.false
    (subst (λ l. IsMaskOf (λ id b. g.F.Fn.post c.args.dead.now (id, tt) b) l c.judge-mask.result) c.as_slice.ensures.value c.judge-mask.ensures) c.if-mask-eq0.false
    c.in_ok-ask_step.ensures.ok
    (λ base o. g.met.S.Steps.shaped c.args.steps.now base o.stood)
    (λ base o. g.met.S.Steps.legal c.ask_step.new.steps base (c.in_ok-ask_step.ensures.goes.still_stands base ((may_drop (λ id b. g.F.Fn.post c.args.dead.now (id, tt) b) (seen_told c.args.seen.now) c.judge-mask.result c.if-seen.false (subst (λ l. IsMaskOf (λ id b. g.F.Fn.post c.args.dead.now (id, tt) b) l c.judge-mask.result) c.as_slice.ensures.value c.judge-mask.ensures) c.if-mask-eq0.false) base o)))
    c.args.tally c.in_ok-counted.counted (sym c.is_spent.ensures ∙ c.if-is_spent.false) c.in_ok-counted.ensures.counted

pub returns-then-seen-clause-sees_to : goal.returns-then-seen-clause-sees_to
returns-then-seen-clause-sees_to g c = λ going base o. deleted_seen (λ id b. g.F.Fn.post c.args.dead.now (id, tt) b) (seen_told c.args.seen.now) c.if-seen.true base o

pub returns-then-mask-eq0-clause-sees_to : goal.returns-then-mask-eq0-clause-sees_to
returns-then-mask-eq0-clause-sees_to g c = λ going base o.
    alive_seen (λ id b. g.F.Fn.post c.args.dead.now (id, tt) b) (seen_told c.args.seen.now) c.judge-mask.result c.if-seen.false (subst (λ l. IsMaskOf (λ id b. g.F.Fn.post c.args.dead.now (id, tt) b) l c.judge-mask.result) c.as_slice.ensures.value c.judge-mask.ensures) c.if-mask-eq0.true base o

pub returns-then-is_spent-clause-sees_to : goal.returns-then-is_spent-clause-sees_to
returns-then-is_spent-clause-sees_to g c = λ going base o. due_seen (λ id b. g.F.Fn.post c.args.dead.now (id, tt) b) (seen_told c.args.seen.now) c.args.tally c.now_due.result c.now_due.ensures going base o

pub returns-clause-sees_to : goal.returns-clause-sees_to
returns-clause-sees_to g c = λ going base o.
    node_seen (λ id b. g.F.Fn.post c.args.dead.now (id, tt) b) (seen_told c.args.seen.now) c.judge-mask.result c.if-seen.false
    (subst (λ l. IsMaskOf (λ id b. g.F.Fn.post c.args.dead.now (id, tt) b) l c.judge-mask.result) c.as_slice.ensures.value c.judge-mask.ensures) c.if-mask-eq0.false
    c.in_ok-ask_step.ensures.ok
    (dead_dropped (λ id b. g.F.Fn.post c.args.dead.now (id, tt) b) (seen_told c.args.seen.now) c.judge-mask.result c.if-seen.false
    (subst (λ l. IsMaskOf (λ id b. g.F.Fn.post c.args.dead.now (id, tt) b) l c.judge-mask.result) c.as_slice.ensures.value c.judge-mask.ensures) c.if-mask-eq0.false
    c.in_ok-ask_step.ensures.ok
    (λ base o. g.met.S.Steps.shaped c.args.steps.now base o.stood)
    (λ base o. g.met.S.Steps.legal c.ask_step.new.steps base (c.in_ok-ask_step.ensures.goes.still_stands base ((may_drop (λ id b. g.F.Fn.post c.args.dead.now (id, tt) b) (seen_told c.args.seen.now) c.judge-mask.result c.if-seen.false (subst (λ l. IsMaskOf (λ id b. g.F.Fn.post c.args.dead.now (id, tt) b) l c.judge-mask.result) c.as_slice.ensures.value c.judge-mask.ensures) c.if-mask-eq0.false) base o)))
    c.args.tally c.in_ok-counted.counted (sym c.is_spent.ensures ∙ c.if-is_spent.false) c.in_ok-counted.ensures.counted)
    base o (g.met.S.Steps.shaped c.args.steps.now base o.stood)
    (g.met.S.Steps.legal c.ask_step.new.steps base (c.in_ok-ask_step.ensures.goes.still_stands base (may_drop (λ id b. g.F.Fn.post c.args.dead.now (id, tt) b) (seen_told c.args.seen.now) c.judge-mask.result c.if-seen.false (subst (λ l. IsMaskOf (λ id b. g.F.Fn.post c.args.dead.now (id, tt) b) l c.judge-mask.result) c.as_slice.ensures.value c.judge-mask.ensures) c.if-mask-eq0.false base o)))
