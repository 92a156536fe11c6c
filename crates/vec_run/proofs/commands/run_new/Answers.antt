use Rattle.std.proofs.Common.{◌+◌, Some, refl, sym, get_or}
use Rattle.std.proofs.lemmas.List.{take_rest}
use Rattle.std.proofs.lemmas.Option.{get_or_from_slice_get}
use Rattle.std.proofs.lemmas.Result.{on_ok_weaker, IfErr-weaker}
use Rattle.vec_run.proofs.Joined.{kept_answers, made_all, made_some, nothing_made, there}
use Rattle.vec_run.proofs.commands.run_new.Goals as goal

pub returns-in_default-clause-err : goal.returns-in_default-clause-err
returns-in_default-clause-err c =
    let m = c.none_made in
    nothing_made c.args.lines.now c.args.commands.now c.args.at m.result c.args.done.now m.ensures.created m.ensures.acts m.ensures.ended
    c.requires.answered

pub returns-in-Err-clause-err : goal.returns-in-Err-clause-err
returns-in-Err-clause-err c =
    let m = c.none_made-in-Err in
    nothing_made c.args.lines.now c.args.commands.now c.args.at m.result c.answer_create.new.done m.ensures.created m.ensures.acts m.ensures.ended
    (kept_answers c.args.lines.now c.args.commands.now c.args.at c.args.done.now c.answer_create.new.done c.in-Err.ensures.kept_text
    c.in-Err.ensures.kept_jobs c.requires.answered)

pub returns-in-Ok-answer_create-clause-ok : goal.returns-in-Ok-answer_create-clause-ok
returns-in-Ok-answer_create-clause-ok c =
    let lines = c.args.lines.now in
    let commands = c.args.commands.now in
    let at = c.args.at in
    let e = c.in-Ok-answer_create.ensures in
    let r = c.run_lone-ended in
    let t = there commands at c.requires.within in
    on_ok_weaker r.result.0
    (λ so. let u = made_all lines commands at (get_or lines at 0) t.0 e.jobs.0 c.args.params c.args.done.now c.answer_create.new.done r.new.done
    c.requires.answered e.jobs.1 (c.requires.making t.0 t.1) e.text e.jobs.2 c.requires.long c.requires.within refl
    (sym (get_or_from_slice_get commands at t.0 t.0 t.1)) r.result.1.items r.ensures.legal _ _ (take_rest lines (at + 1)) (take_rest commands (at + 1)) so in
    record {
      replies = u.replies;
      runs = record { made = Some c.args.params; run = u.run; legal = r.ensures.legal };
      text_is = u.text_is;
    })
    r.ensures.ok

pub returns-in-Ok-answer_create-clause-err : goal.returns-in-Ok-answer_create-clause-err
returns-in-Ok-answer_create-clause-err c =
    let lines = c.args.lines.now in
    let commands = c.args.commands.now in
    let at = c.args.at in
    let e = c.in-Ok-answer_create.ensures in
    let r = c.run_lone-ended in
    let t = there commands at c.requires.within in
    IfErr-weaker r.result.0 _ _
    (λ why so. let u = made_some lines commands at (get_or lines at 0) t.0 e.jobs.0 c.args.params c.args.done.now c.answer_create.new.done r.new.done
    c.requires.answered e.jobs.1 (c.requires.making t.0 t.1) e.text e.jobs.2 c.requires.long c.requires.within refl
    (sym (get_or_from_slice_get commands at t.0 t.0 t.1)) r.result.1.items r.ensures.legal _ _ (take_rest lines (at + 1)) (take_rest commands (at + 1)) why so in
    record { replies = u.0.replies; runs = u.1; text_is = u.0.text_is })
    r.ensures.err
