use Rattle.std.proofs.Common.{◌∙◌, ap, subst, length, Option, MatchOption, ℕ}
use Rattle.vec_names.specs.declared.params.Params.{Params}
use Rattle.vec_run.specs.Runs.{AnswersTo}
use Rattle.vec_run.proofs.Joined.{ran_answered, ran_short}
use Rattle.vec_run.proofs.commands.run_commands.Goals as goal

pub returns-in-Ok-None-clause-ok : goal.returns-in-Ok-None-clause-ok
returns-in-Ok-None-clause-ok c =
    let r = c.into_ran-in-Ok-None in
    let lines = c.args.lines.now in
    let commands = c.args.commands.now in
    let done = c.answer_first.new.done in
    let e = r.ensures in
    ran_answered lines commands r.result done e.text e.jobs e.created (ap (λ v. v.items) e.acts ∙ c.new.ensures.items) e.epochs c.requires.long
    (subst (λ (o : Option (ℕ × Params)). MatchOption o (AnswersTo lines commands (length commands) done) (λ f. AnswersTo lines commands f.0 done))
    c.in-Ok-None.field-0-is c.in-Ok-None.ensures.ok)

pub returns-in-Err-clause-err : goal.returns-in-Err-clause-err
returns-in-Err-clause-err c =
    let r = c.into_ran-in-Err in
    let e = r.ensures in
    ran_short c.args.lines.now c.args.commands.now r.result c.answer_first.new.done e.text e.jobs (e.created ∙ c.none_made.ensures.created)
    (ap (λ v. v.items) e.acts ∙ c.none_made.ensures.acts) e.epochs c.in-Err.ensures.err.0 c.in-Err.ensures.err.1 (e.ended ∙ c.none_made.ensures.ended)
