use Rattle.std.proofs.Common.{take}
use Rattle.vec_steps.specs.Calls.{Goes, HoldsNone}
use Rattle.vec_run.specs.Runs.{RunsAll}
use Rattle.vec_run.proofs.indexed.run_all.Given as goal

-- the commands so far were completed, one after the other
abbrev pub invariant-command : goal.invariant-command
invariant-command g l = record {
  goes : Goes g.S.Steps.desk g.S.Steps.stands g.S.Steps.comes_from (g.S.Steps.stands l.fn.steps) l.fn.steps l.steps;
  gates : HoldsNone (g.S.Steps.seen l.steps) (g.S.Steps.desk l.fn.steps).number;
  runs : RunsAll (g.S.Steps.stands l.fn.steps) (g.S.Steps.desk l.fn.steps) (g.S.Steps.seen l.fn.steps) (g.S.Steps.seen l.steps)
      (take l.i l.lines) (take l.i l.commands) l.fn.done l.done;
}
