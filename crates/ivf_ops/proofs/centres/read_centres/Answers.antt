use Rattle.std.proofs.Common.{◌++◌, ap, sym, subst, ◌∙◌, map, List}
use Rattle.vec_steps.specs.Desks.{Desk}
use Rattle.vec_steps.specs.declared.seen.Centre.{Centre}
use Rattle.vec_steps.proofs.Following.{goes_nowhere, goes_then}
use Rattle.ivf_ops.specs.Nearness.{near_of}
use Rattle.ivf_ops.specs.Viewing.{EndedBy}
use Rattle.ivf_ops.proofs.Asking.{centres_more, centres_none}
use Rattle.ivf_ops.proofs.Views.{ended_memory, ended_then, fails, views_then}
use Rattle.ivf_ops.proofs.centres.read_centres.Goals as goal

pub loop-page-init : goal.loop-page-init
loop-page-init g c = record {
  goes = goes_nowhere g.met.S.Steps.comes_itself c.args.steps.now (λ base o. o);
  bits = c.requires.bits;
  so_far = centres_none (g.S.Steps.seen c.args.steps.now) c.args.trace.now.reads c.args.query.now c.new-nears.result.items c.new-nears.ensures.items;
}

pub loop-page-preserved : goal.loop-page-preserved
loop-page-preserved g c =
    let so = c.loop-page.invariant in
    record {
      goes = goes_then g.met.S.Steps.comes_on so.goes.still_stands so.goes c.in_ok-look_at_centres.ensures.goes;
      bits = c.in_ok-look_at_centres.ensures.bits ∙ ap (λ (d : Desk). d.params.bits) so.goes.stays;
      so_far = centres_more c.args.query.now c.loop-page.page c.loop-page.nears.items c.put_nears.new.nears.items
          c.look_at_centres.new.told.centres so.goes.stays so.goes.still_stands so.so_far c.in_ok-look_at_centres.ensures.ok
          (c.in_ok-put_nears.ensures.ok ∙ ap (λ (l : List Centre). c.loop-page.nears.items ++ map (near_of c.args.query.now) l) c.as_slice.ensures);
    }

pub returns-in_err-look_at_centres-clause-err : goal.returns-in_err-look_at_centres-clause-err
returns-in_err-look_at_centres-clause-err g c =
    let so = c.loop-page.invariant in
    let s = c.args.steps.now in
    fails c.from_residual.result
    (λ e is. subst (EndedBy (g.S.Steps.stands s) (g.S.Steps.desk s) (g.S.Steps.seen s) (g.S.Steps.seen c.look_at_centres.new.steps)) (sym is)
    (ended_then so.goes.stays so.goes.still_stands so.so_far.made c.in_err-look_at_centres.ensures.err)) c.from_residual.ensures.1

pub returns-in_err-put_nears-clause-err : goal.returns-in_err-put_nears-clause-err
returns-in_err-put_nears-clause-err g c =
    let so = c.loop-page.invariant in
    fails c.from_residual-in_err-put_nears.result
    (λ e is. ended_memory e (is ∙ c.in_err-put_nears.ensures.memory)
    (views_then so.goes.stays so.goes.still_stands so.so_far.made c.in_ok-look_at_centres.ensures.ok)) c.from_residual-in_err-put_nears.ensures.1
