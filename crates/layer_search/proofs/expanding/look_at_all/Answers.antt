use Rattle.std.proofs.Common.{◌≡◌, ◌<◌, [], List, length, get_or, refl, sym, ap, subst, ◌∙◌, arith}
use Rattle.vec_names.specs.declared.tid.Tid.{Tid}
use Rattle.graph_search.specs.Descent.{start_at}
use Rattle.search_sets.specs.Standing.{held}
use Rattle.search_sets.proofs.HeldSo.{held_in_order}
use Rattle.vec_steps.proofs.Following.{goes_nowhere, goes_then}
use Rattle.layer_search.specs.Telling.{OverSpots}
use Rattle.layer_search.specs.Looking.{EndedBy}
use Rattle.layer_search.proofs.Looks.{ended_then, fails}
use Rattle.layer_search.proofs.Turns.{all_more, all_none, none_over}
use Rattle.layer_search.proofs.expanding.look_at_all.Goals as goal

pub loop-k-init : goal.loop-k-init
loop-k-init g c =
    let s = start_at c.args.aim.ops c.args.query.now [] c.args.aim.layer in
    let bits = (g.S.Steps.desk c.args.steps.now).params.bits in
    record {
      goes = goes_nowhere g.met.S.Steps.comes_itself c.args.steps.now (λ base o. o.stood);
      bits = c.requires.bits;
      fresh = refl;
      whole = c.requires.whole;
      wanted = refl;
      looked = all_none s bits (g.S.Steps.seen c.args.steps.now) c.args.trace.now.reads (held c.args.frontier.now)
          (held_in_order c.args.frontier.now c.requires.whole);
    }

pub returns-in_err-look_at_one-clause-err : goal.returns-in_err-look_at_one-clause-err
returns-in_err-look_at_one-clause-err g c =
    let so = c.loop-k.invariant in
    let over = OverSpots (g.S.Steps.stands c.args.steps.now) (g.S.Steps.seen c.args.steps.now) c.args.aim.layer [] in
    fails c.from_residual.result
    (λ e is. subst (EndedBy over (g.S.Steps.desk c.args.steps.now) (g.S.Steps.seen c.args.steps.now) (g.S.Steps.seen c.look_at_one.new.steps)) (sym is)
    (ended_then so.goes.stays (none_over so.goes.still_stands) so.looked.made c.in_err-look_at_one.ensures.err)) c.from_residual.ensures.1

pub loop-k-preserved : goal.loop-k-preserved
loop-k-preserved g c =
    let so = c.loop-k.invariant in
    let s = start_at c.args.aim.ops c.args.query.now [] c.args.aim.layer in
    let fresh : List Tid = c.args.room.now.fresh in
    let places : c.as_slice.result.now ≡ fresh = c.as_slice.ensures ∙ so.fresh in
    let within : c.loop-k.k < length fresh = omega (arith, c.loop-k-test.true, c.len-k-end.ensures) in
    record {
      goes = goes_then g.met.S.Steps.comes_on (none_over so.goes.still_stands) so.goes c.in_ok-look_at_one.ensures.goes;
      bits = c.in_ok-look_at_one.ensures.bits ∙ ap (λ d. d.params.bits) so.goes.stays;
      fresh = so.fresh;
      whole = c.in_ok-look_at_one.ensures.whole;
      wanted = c.in_ok-look_at_one.ensures.wanted ∙ so.wanted;
      looked = all_more s (held c.args.frontier.now) (held c.loop-k.frontier) (held c.look_at_one.new.frontier) fresh c.loop-k.k c.index-as_slice-k.result within
          (c.index-as_slice-k.is ∙ ap (λ (l : List Tid). get_or l c.loop-k.k c.index-as_slice-k.result) places) so.goes.stays
          (none_over so.goes.still_stands) so.looked c.in_ok-look_at_one.ensures.ok;
    }
