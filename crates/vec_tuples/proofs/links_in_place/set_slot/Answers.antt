use Rattle.std.proofs.Common.{arith}
use Rattle.vec_tuples.proofs.SlotPlaces.{slot_below, slot_set}
use Rattle.vec_tuples.proofs.links_in_place.set_slot.Goals as goal

pub returns : goal.returns
returns c = λ l is.
    rw (c.put_six.ensures, c.spelled_option.ensures)
    (slot_set c.args.bytes.now c.args.at c.args.to l is (slot_below c.args.bytes.now c.args.at l (omega (arith, c.requires)) is))
