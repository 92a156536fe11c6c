use Rattle.std.proofs.Common.{◌∙◌, ap, sym, subst, refl, length, ◌<◌, ◌∷◌, [], ◌++◌, take}
use Rattle.std.proofs.lemmas.List.{take_more}
use Rattle.std.proofs.lemmas.Option.{slice_get_read}
use Rattle.script_words.specs.declared.command.Command.{Command}
use Rattle.vec_steps.specs.Desks.{Desk}
use Rattle.vec_steps.specs.Calls.{HoldsNone}
use Rattle.vec_steps.proofs.Following.{goes_nowhere, goes_then}
use Rattle.hnsw_insert.proofs.Stopped.{handed}
use Rattle.vec_run.proofs.Running.{runs_more, runs_none, stops_next}
use Rattle.vec_run.proofs.indexed.run_all.Goals as goal

pub command-init : goal.command-init
command-init g c = record {
  goes = goes_nowhere g.met.S.Steps.comes_itself c.args.steps.now (λ base o. o);
  gates = c.requires.gates;
  runs = runs_none (g.S.Steps.stands c.args.steps.now) (g.S.Steps.desk c.args.steps.now) (g.S.Steps.seen c.args.steps.now) c.args.done.now;
}

pub do_next-requires-clause-gates : goal.do_next-requires-clause-gates
do_next-requires-clause-gates g c =
    let so = c.command.invariant in
    subst (λ (d : Desk). HoldsNone (g.S.Steps.seen c.command.steps) d.number) (sym so.goes.stays) so.gates

pub returns-in_err-do_next-clause-err : goal.returns-in_err-do_next-clause-err
returns-in_err-do_next-clause-err g c =
    let S = g.S.Steps in
    let s0 = c.args.steps.now in
    let so = c.command.invariant in
    handed _ c.from_residual.result
    (stops_next (S.desk s0) (S.desk c.command.steps) so.goes.stays so.goes.still_stands (S.seen s0) (S.seen c.command.steps) (S.seen c.do_next.new.steps)
    c.args.lines.now c.args.commands.now c.command.i c.index-commands-i.result c.args.done.now c.command.done c.do_next.new.done c.in_err-do_next.field-0.0
    (slice_get_read c.args.commands.now (length c.args.commands.now) c.command.i c.index-commands-i.result refl c.command-test.true c.index-commands-i.is)
    so.runs c.in_err-do_next.ensures.err)
    c.from_residual.ensures.1

pub command-preserved : goal.command-preserved
command-preserved g c =
    let S = g.S.Steps in
    let s0 = c.args.steps.now in
    let so = c.command.invariant in
    record {
      goes = goes_then g.met.S.Steps.comes_on so.goes.still_stands so.goes c.in_ok-do_next.ensures.goes;
      gates = subst (λ (d : Desk). HoldsNone (S.seen c.do_next.new.steps) d.number) so.goes.stays c.in_ok-do_next.ensures.gates;
      runs =
          runs_more (S.desk s0) (S.desk c.command.steps) so.goes.stays so.goes.still_stands (S.seen s0) (S.seen c.command.steps) (S.seen c.do_next.new.steps)
          _ _ _ _ _ c.index-commands-i.result c.args.done.now c.command.done c.do_next.new.done
          (take_more c.args.lines.now c.command.i 0 (subst (λ n. c.command.i < n) (sym c.requires.long) c.command-test.true))
          (take_more c.args.commands.now c.command.i c.index-commands-i.result c.command-test.true
          ∙ ap (λ (x : Command). take c.command.i c.args.commands.now ++ x ∷ []) (sym c.index-commands-i.is))
          so.runs c.in_ok-do_next.ensures.ok;
    }
