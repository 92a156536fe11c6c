use Rattle.std.proofs.Common.{◌≡◌, ◌-◌, ℕ, List, map, min, sym, ap, subst, ◌∙◌, arith}
use Rattle.neighbour_pick.specs.declared.found.Found.{Found}
use Rattle.search_sets.specs.Standing.{spot_of}
use Rattle.vec_steps.specs.Desks.{Desk}
use Rattle.vec_steps.proofs.Following.{goes_nowhere, goes_then}
use Rattle.layer_search.specs.Waiting.{AreApart, AreLong}
use Rattle.layer_search.specs.Telling.{OverSpots}
use Rattle.layer_search.specs.Looking.{EndedBy}
use Rattle.layer_search.proofs.Looks.{ended_then, fails}
use Rattle.layer_search.proofs.Told.{stand_later}
use Rattle.layer_search.proofs.Lowering.{lowered_as, lowered_end, lowered_more, lowered_none, or_apart, or_long, or_over, over_lower, over_slice}
use Rattle.layer_search.proofs.descending.lower.Goals as goal

pub layers-init : goal.layers-init
layers-init g c = record {
  goes = goes_nowhere g.met.S.Steps.comes_itself c.args.steps.now (λ base o. o.stood);
  bits = c.requires.bits;
  apart = c.requires.apart;
  long = c.requires.long;
  least = omega arith;
  told = λ base o. o;
  so_far = lowered_none (g.S.Steps.seen c.args.steps.now) c.args.trace.now.reads c.args.way.ops c.args.query.now c.args.way.to c.args.way.level c.args.first;
}

pub returns-in_err-found-clause-err : goal.returns-in_err-found-clause-err
returns-in_err-found-clause-err g c =
    let so = c.layers.invariant in
    let over = OverSpots (g.S.Steps.stands c.args.steps.now) (g.S.Steps.seen c.args.steps.now) c.args.way.level (map spot_of c.args.first) in
    fails c.from_residual.result
    (λ e is. subst (EndedBy over (g.S.Steps.desk c.args.steps.now) (g.S.Steps.seen c.args.steps.now) (g.S.Steps.seen c.search_in.new.steps)) (sym is)
    (ended_then so.goes.stays (λ base o. over_slice _ _ c.layers.layer _ c.layers.from c.as_slice.ensures base (so.told base o)) so.so_far.made c.in_err-found.ensures.err)) c.from_residual.ensures.1

pub layers-preserved : goal.layers-preserved
layers-preserved g c =
    let so = c.layers.invariant in
    let now = c.in_ok-found.ensures in
    let found = c.in_ok-found.found in
    let was = c.layers.from in
    let steps = c.search_in.new.steps in
    let is = c.or_from-from.ensures in
    record {
      goes = goes_then g.met.S.Steps.comes_on (λ base o. over_slice _ _ c.layers.layer _ was c.as_slice.ensures base (so.told base o)) so.goes now.goes;
      bits = now.bits ∙ ap (λ (d : Desk). d.params.bits) so.goes.stays;
      apart = subst AreApart (sym is) (or_apart found was now.apart so.apart);
      long = subst (AreLong (g.S.Steps.desk c.args.steps.now).params.bits) (sym is)
          (or_long (g.S.Steps.desk c.args.steps.now).params.bits found was (subst (λ (d : Desk). AreLong d.params.bits found) so.goes.stays now.long) so.long);
      least = omega (arith, so.least, c.layers-test.true);
      told = λ base o.
          let before = so.told base o in
          let after = now.told base (over_slice _ _ c.layers.layer _ was c.as_slice.ensures base before) in
          over_lower c.layers.layer (c.layers.layer - 1) (omega arith) (map spot_of c.or_from-from.result) base
          (subst (λ (l : List Found). OverSpots (g.S.Steps.stands steps) (g.S.Steps.seen steps) c.layers.layer (map spot_of l) base) (sym is)
          (or_over c.layers.layer found was base after
          (stand_later c.layers.layer (map spot_of was) base (g.met.S.Steps.shaped steps base after.stood) (g.met.S.Steps.legal steps base after.stood)
          now.ok.made.does.acts before.there)));
      so_far = lowered_as c.args.way.ops c.args.query.now c.args.way.to c.args.way.level (c.layers.layer - 1) c.args.first is
          (lowered_more c.args.way.ops c.args.query.now c.args.way.to c.args.way.level c.layers.layer c.args.first was found so.goes.stays (λ base o. over_slice _ _ c.layers.layer _ was c.as_slice.ensures base (so.told base o)) c.layers-test.true
          so.so_far c.as_slice.ensures now.ok);
    }

pub returns-clause-ok : goal.returns-clause-ok
returns-clause-ok g c =
    lowered_end c.args.way.ops c.args.query.now c.args.way.to c.args.way.level c.layers.layer c.args.first c.layers.from c.layers-test.false
    c.layers.invariant.so_far

pub returns-clause-told : goal.returns-clause-told
returns-clause-told g c =
    λ base o. over_lower c.layers.layer (min c.args.way.to c.args.way.level) c.layers.invariant.least (map spot_of c.layers.from) base
    (c.layers.invariant.told base o)
