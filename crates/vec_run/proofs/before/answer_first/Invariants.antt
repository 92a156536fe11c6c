use Rattle.vec_run.specs.Runs.{AnswersTo}
use Rattle.vec_run.proofs.before.answer_first.Given as goal

-- the commands so far were answered
abbrev pub invariant-loop-i : goal.invariant-loop-i
invariant-loop-i l = AnswersTo l.lines l.commands l.i l.done
