use Rattle.std.proofs.Common.{arith}
use Rattle.vec_tuples.proofs.SlotPlaces.{slots_more}
use Rattle.vec_tuples.proofs.links_in_place.fill_slots.Goals as goal

pub places-preserved : goal.places-preserved
places-preserved c = (
  omega arith,
  rw (c.put_six.ensures, c.spelled_option.ensures)
      (slots_more c.args.tids.now c.places.at c.args.into.now c.places.into c.index-tids-at.result c.places-test.true c.index-tids-at.is c.places.invariant.1),
)
