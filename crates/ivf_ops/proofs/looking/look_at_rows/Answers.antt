use Rattle.std.proofs.Common.{refl, map}
use Rattle.vec_steps.specs.Telling.{row_told}
use Rattle.vec_steps.proofs.Following.{goes_over}
use Rattle.ivf_ops.proofs.Chained.{next_there, of_rows, rows_ask, rows_looked}
use Rattle.ivf_ops.proofs.Views.{ended_memory, fails, step_failed}
use Rattle.ivf_ops.proofs.looking.look_at_rows.Goals as goal

pub returns-in_err-step-clause-err : goal.returns-in_err-step-clause-err
returns-in_err-step-clause-err g c =
    fails c.from_residual.result
    (λ e is. step_failed c.in_err-step.field-0.0 e is (of_rows c.args.block) (rows_ask c.args.block) c.in_err-step.ensures.err) c.from_residual.ensures.1

pub returns-in_err-push-clause-err : goal.returns-in_err-push-clause-err
returns-in_err-push-clause-err g c =
    fails c.from_residual-in_err-push.result
    (λ e is. ended_memory e is (rows_looked {before = c.args.trace.now.reads} c.args.block c.in_ok-step.ensures.ok refl)) c.from_residual-in_err-push.ensures.1

pub returns-clause-ok : goal.returns-clause-ok
returns-clause-ok g c = rows_looked c.args.block c.in_ok-step.ensures.ok c.in_ok-push.ensures.ok

pub returns-clause-next : goal.returns-clause-next
returns-clause-next g c =
    let S = g.S.Steps in
    let end = c.step.new.self in
    λ base o.
    let still = c.in_ok-step.ensures.goes.still_stands in
    let stood = still base (rows_ask c.args.block base o) in
    record {
      stood = stood;
      there = next_there c.args.block (map row_told c.step.new.told.rows) c.step.new.told.next
          (λ b p. g.met.S.Steps.shaped end b (still b (rows_ask c.args.block b p)))
          (λ b p. g.met.S.Steps.legal end b (still b (rows_ask c.args.block b p)))
          (λ b p. p.there)
          (rows_looked {before = c.args.trace.now.reads} c.args.block c.in_ok-step.ensures.ok refl) base o;
    }

pub returns-in_err-step-clause-goes : goal.returns-in_err-step-clause-goes
returns-in_err-step-clause-goes g c = goes_over (rows_ask c.args.block) c.in_err-step.ensures.goes

pub returns-in_err-push-clause-goes : goal.returns-in_err-push-clause-goes
returns-in_err-push-clause-goes g c = goes_over (rows_ask c.args.block) c.in_ok-step.ensures.goes

pub returns-clause-goes : goal.returns-clause-goes
returns-clause-goes g c = goes_over (rows_ask c.args.block) c.in_ok-step.ensures.goes
