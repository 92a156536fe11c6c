use Rattle.std.proofs.Common.{◌∙◌, ap, sym, subst, get_or, ◌<◌, ◌∷◌, [], ◌++◌, take}
use Rattle.std.proofs.lemmas.List.{take_more}
use Rattle.script_words.specs.declared.command.Command.{Command}
use Rattle.vec_run.specs.declared.before.First.{First}
use Rattle.vec_run.specs.Alone.{IsFirst}
use Rattle.vec_run.proofs.Running.{answers_more}
use Rattle.vec_run.proofs.before.answer_first.Goals as goal

pub loop-i-preserved : goal.loop-i-preserved
loop-i-preserved c =
    answers_more c.args.lines.now c.args.commands.now c.loop-i.i (get_or c.args.lines.now c.loop-i.i 0) c.index-commands-i.result c.in-Told.reply
    c.idle_job.result c.loop-i.done c.complete.new.self
    (take_more c.args.lines.now c.loop-i.i 0 (subst (λ n. c.loop-i.i < n) (sym c.requires.long) c.loop-i-test.true))
    (take_more c.args.commands.now c.loop-i.i c.index-commands-i.result c.loop-i-test.true
    ∙ ap (λ (x : Command). take c.loop-i.i c.args.commands.now ++ x ∷ []) (sym c.index-commands-i.is))
    c.loop-i.invariant
    (subst (λ (f : First). IsFirst c.index-commands-i.result f) c.in-Told.is c.first_of.ensures)
    c.idle_job.ensures c.in_ok-complete-in-Told.ensures.text c.in_ok-complete-in-Told.ensures.jobs
