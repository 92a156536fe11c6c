use Rattle.std.proofs.Common.{◌≡◌, [], false, refl, sym, ap, subst, ◌∙◌}
use Rattle.graph_search.specs.Descent.{start_at}
use Rattle.graph_search.specs.Scan.{is_over}
use Rattle.search_sets.specs.Standing.{held, wanted}
use Rattle.vec_steps.specs.Desks.{Desk}
use Rattle.vec_steps.proofs.Following.{goes_nowhere, goes_then}
use Rattle.layer_search.specs.Waiting.{IsReady}
use Rattle.layer_search.specs.Telling.{OverSpots, spots_held}
use Rattle.layer_search.specs.Looking.{EndedBy}
use Rattle.layer_search.proofs.Looks.{ended_then, fails}
use Rattle.layer_search.proofs.Turns.{on_more, on_none, turn_shrinks}
use Rattle.layer_search.proofs.searching.go_on.Goals as goal

pub turns-init : goal.turns-init
turns-init g c =
    let s = start_at c.args.aim.ops c.args.query.now [] c.args.aim.layer in
    record {
      goes = goes_nowhere g.met.S.Steps.comes_itself c.args.steps.now (λ base o. o.stood);
      bits = c.requires.bits;
      ready = c.requires.ready;
      same_wanted = refl;
      told = λ base o. o;
      so_far = on_none (g.S.Steps.seen c.args.steps.now) c.args.trace.now.reads s (wanted c.args.frontier.now) c.args.aim.most (held c.args.frontier.now);
    }

pub turns-smaller : goal.turns-smaller
turns-smaller g c =
    let s = start_at c.args.aim.ops c.args.query.now [] c.args.aim.layer in
    let e = c.in_ok-expand.ensures.ok in
    turn_shrinks s e.turn (held c.turns.frontier) (held c.expand.new.frontier) e.rest e.least e.left c.in_ok-expand.ensures.ready.whole.few

pub turns-preserved : goal.turns-preserved
turns-preserved g c =
    let s = start_at c.args.aim.ops c.args.query.now [] c.args.aim.layer in
    let so = c.turns.invariant in
    let now = c.in_ok-expand.ensures in
    let ef = wanted c.args.frontier.now in
    let most = c.args.aim.most in
    let goes_on : is_over ef most (held c.turns.frontier) ≡ false =
    ap (λ n. is_over n most (held c.turns.frontier)) (sym so.same_wanted) ∙ sym c.turns-test.ensures in
    record {
      goes = goes_then g.met.S.Steps.comes_on so.told so.goes now.goes;
      bits = now.bits ∙ ap (λ (d : Desk). d.params.bits) so.goes.stays;
      ready = subst (λ (d : Desk). IsReady d.params.bits c.expand.new.frontier) so.goes.stays now.ready;
      same_wanted = now.wanted ∙ so.same_wanted;
      told = λ base o. now.told base (so.told base o);
      so_far = on_more s ef most (held c.args.frontier.now) (held c.turns.frontier) (held c.expand.new.frontier) so.goes.stays so.told so.so_far goes_on now.ok;
    }

pub returns-in_err-expand-clause-err : goal.returns-in_err-expand-clause-err
returns-in_err-expand-clause-err g c =
    let so = c.turns.invariant in
    let over = OverSpots (g.S.Steps.stands c.args.steps.now) (g.S.Steps.seen c.args.steps.now) c.args.aim.layer (spots_held (held c.args.frontier.now)) in
    fails c.from_residual.result
    (λ e is. subst (EndedBy over (g.S.Steps.desk c.args.steps.now) (g.S.Steps.seen c.args.steps.now) (g.S.Steps.seen c.expand.new.steps)) (sym is)
    (ended_then so.goes.stays so.told so.so_far.made c.in_err-expand.ensures.err)) c.from_residual.ensures.1
