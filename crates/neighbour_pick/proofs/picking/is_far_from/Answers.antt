use Rattle.neighbour_pick.specs.Order.{candidate_of}
use Rattle.neighbour_pick.specs.Selection.{is_far}
use Rattle.neighbour_pick.specs.Sifting.{candidates_at}
use Rattle.neighbour_pick.proofs.Sifted.{far_ends, far_goes_on}
use Rattle.neighbour_pick.proofs.picking.is_far_from.Goals as goal

pub returns-then-not-is_farther : goal.returns-then-not-is_farther
returns-then-not-is_farther c =
    far_ends c.args.ops c.args.found.now c.args.chosen.now c.loop-place.place-index c.index-found-place.result (candidate_of c.args.one.now) c.distance-between.result c.is_farther.result
    (is_far c.args.ops (candidates_at c.args.found.now c.args.chosen.now) (candidate_of c.args.one.now))
    (record {
      left = c.loop-place-test.true;
      inside = c.requires.inside c.loop-place.place-index 0 c.loop-place-test.true;
      is = c.index-found-place.is;
      between_is = cc;
      answer_is = c.is_farther.ensures;
    })
    c.if-not-is_farther.true
    c.loop-place.invariant

pub loop-place-preserved : goal.loop-place-preserved
loop-place-preserved c =
    far_goes_on c.args.ops c.args.found.now c.args.chosen.now c.loop-place.place-index c.index-found-place.result (candidate_of c.args.one.now) c.distance-between.result c.is_farther.result
    (is_far c.args.ops (candidates_at c.args.found.now c.args.chosen.now) (candidate_of c.args.one.now))
    (record {
      left = c.loop-place-test.true;
      inside = c.requires.inside c.loop-place.place-index 0 c.loop-place-test.true;
      is = c.index-found-place.is;
      between_is = cc;
      answer_is = c.is_farther.ensures;
    })
    c.if-not-is_farther.false
    c.loop-place.invariant
