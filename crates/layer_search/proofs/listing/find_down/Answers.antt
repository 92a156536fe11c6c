use Rattle.std.proofs.Common.{◌≡◌, ◌-◌, ◌∙◌, ℕ, map, sym, ap, subst, arith}
use Rattle.search_sets.specs.Standing.{spot_of}
use Rattle.vec_steps.specs.Desks.{Desk}
use Rattle.vec_steps.proofs.Following.{goes_nowhere, goes_then}
use Rattle.layer_search.specs.Waiting.{AreLong}
use Rattle.layer_search.specs.Telling.{OverSpots}
use Rattle.layer_search.specs.Looking.{EndedBy}
use Rattle.layer_search.specs.Listing.{ArePicksLong, newcomer_of}
use Rattle.layer_search.proofs.Looks.{ended_then, fails}
use Rattle.layer_search.proofs.Lowering.{over_lower}
use Rattle.layer_search.proofs.LayersFound.{ListedSo, listed_end, listed_more, listed_none}
use Rattle.layer_search.proofs.listing.find_down.Goals as goal

pub layers-init : goal.layers-init
layers-init g c = record {
  goes = goes_nowhere g.met.S.Steps.comes_itself c.args.steps.now (λ base o. o.stood);
  bits = c.requires.bits;
  apart = c.requires.apart;
  long = c.requires.long;
  picks_long = c.requires.picks_long;
  low = omega arith;
  told = λ base o. o;
  so_far = listed_none (g.S.Steps.seen c.args.steps.now) c.args.trace.now.reads (newcomer_of c.args.plan c.args.query.now) c.args.plan.layer c.args.lists.now;
}

pub returns-in_err-find_layer-clause-err : goal.returns-in_err-find_layer-clause-err
returns-in_err-find_layer-clause-err g c =
    let so = c.layers.invariant in
    let over = OverSpots (g.S.Steps.stands c.args.steps.now) (g.S.Steps.seen c.args.steps.now) c.args.plan.layer (map spot_of c.args.lists.now.near) in
    fails c.from_residual.result
    (λ e is. subst (EndedBy over (g.S.Steps.desk c.args.steps.now) (g.S.Steps.seen c.args.steps.now) (g.S.Steps.seen c.find_layer.new.steps)) (sym is)
    (ended_then so.goes.stays so.told so.so_far.made c.in_err-find_layer.ensures.err)) c.from_residual.ensures.1

pub layers-preserved : goal.layers-preserved
layers-preserved g c =
    let so = c.layers.invariant in
    let now = c.in_ok-find_layer.ensures in
    let lists = c.find_layer.new.lists in
    record {
      goes = goes_then g.met.S.Steps.comes_on so.told so.goes now.goes;
      bits = now.bits ∙ ap (λ (d : Desk). d.params.bits) so.goes.stays;
      apart = now.apart;
      long = subst (λ (d : Desk). AreLong d.params.bits lists.near) so.goes.stays now.long;
      picks_long = subst (λ (d : Desk). ArePicksLong d.params.bits lists.picks) so.goes.stays now.picks_long;
      low = omega (arith, so.low);
      told = λ base o. over_lower c.layers.layer (c.layers.layer - 1) (omega arith) (map spot_of lists.near) base (now.told base (so.told base o));
      so_far = listed_more (newcomer_of c.args.plan c.args.query.now) c.args.plan.layer c.layers.layer c.args.lists.now c.layers.lists lists so.goes.stays so.told
          c.layers-test.true so.so_far now.ok;
    }

-- the lowest layer

pub returns-in_err-find_layer-2-clause-goes : goal.returns-in_err-find_layer-2-clause-goes
returns-in_err-find_layer-2-clause-goes g c =
    let so = c.layers.invariant in
    goes_then g.met.S.Steps.comes_on (λ base o. over_lower c.layers.layer 0 (omega arith) (map spot_of c.layers.lists.near) base (so.told base o)) so.goes
    c.in_err-find_layer-2.ensures.goes

pub returns-in_err-find_layer-2-clause-err : goal.returns-in_err-find_layer-2-clause-err
returns-in_err-find_layer-2-clause-err g c =
    let so = c.layers.invariant in
    let over = OverSpots (g.S.Steps.stands c.args.steps.now) (g.S.Steps.seen c.args.steps.now) c.args.plan.layer (map spot_of c.args.lists.now.near) in
    fails c.from_residual-in_err-find_layer-2.result
    (λ e is. subst (EndedBy over (g.S.Steps.desk c.args.steps.now) (g.S.Steps.seen c.args.steps.now) (g.S.Steps.seen c.find_layer-2.new.steps)) (sym is)
    (ended_then so.goes.stays (λ base o. over_lower c.layers.layer 0 (omega arith) (map spot_of c.layers.lists.near) base (so.told base o)) so.so_far.made
    c.in_err-find_layer-2.ensures.err)) c.from_residual-in_err-find_layer-2.ensures.1

pub returns-clause-goes : goal.returns-clause-goes
returns-clause-goes g c =
    let so = c.layers.invariant in
    goes_then g.met.S.Steps.comes_on (λ base o. over_lower c.layers.layer 0 (omega arith) (map spot_of c.layers.lists.near) base (so.told base o)) so.goes
    c.in_ok-find_layer-2.ensures.goes

pub returns-clause-ok : goal.returns-clause-ok
returns-clause-ok g c =
    let so = c.layers.invariant in
    let lowest : c.layers.layer ≡ 0 = omega (arith, c.layers-test.false) in
    let over = OverSpots (g.S.Steps.stands c.args.steps.now) (g.S.Steps.seen c.args.steps.now) c.args.plan.layer (map spot_of c.args.lists.now.near) in
    listed_end (newcomer_of c.args.plan c.args.query.now) c.args.plan.layer c.args.lists.now c.layers.lists c.find_layer-2.new.lists so.goes.stays
    (λ base o. over_lower c.layers.layer 0 (omega arith) (map spot_of c.layers.lists.near) base (so.told base o))
    (subst (λ (k : ℕ). ListedSo over (g.S.Steps.desk c.args.steps.now) (g.S.Steps.seen c.args.steps.now) (g.S.Steps.seen c.layers.steps) c.args.trace.now.reads
    c.layers.trace.reads (newcomer_of c.args.plan c.args.query.now) c.args.plan.layer k c.args.lists.now c.layers.lists) lowest so.so_far)
    c.in_ok-find_layer-2.ensures.ok

pub returns-clause-picks_long : goal.returns-clause-picks_long
returns-clause-picks_long g c =
    subst (λ (d : Desk). ArePicksLong d.params.bits c.find_layer-2.new.lists.picks) c.layers.invariant.goes.stays c.in_ok-find_layer-2.ensures.picks_long

pub returns-clause-near_long : goal.returns-clause-near_long
returns-clause-near_long g c =
    subst (λ (d : Desk). AreLong d.params.bits c.find_layer-2.new.lists.near) c.layers.invariant.goes.stays c.in_ok-find_layer-2.ensures.long

pub find_layer-requires-clause-picks_long : goal.find_layer-requires-clause-picks_long
find_layer-requires-clause-picks_long g c =
    subst (λ (d : Desk). ArePicksLong d.params.bits c.layers.lists.picks) (sym c.layers.invariant.goes.stays) c.layers.invariant.picks_long

pub find_layer-requires-2-clause-picks_long : goal.find_layer-requires-2-clause-picks_long
find_layer-requires-2-clause-picks_long g c =
    subst (λ (d : Desk). ArePicksLong d.params.bits c.layers.lists.picks) (sym c.layers.invariant.goes.stays) c.layers.invariant.picks_long
