use Rattle.std.proofs.lemmas.Result.{err_from_is_err_and}
use Rattle.byte_fields.specs.Reading.{times, slot_of}
use Rattle.byte_fields.proofs.Loops.{times_goes_on, times_stops, times_done}
use Rattle.byte_fields.proofs.optional.slots.Goals as goal

pub returns-in_err-place : goal.returns-in_err-place
returns-in_err-place c =
    let p = err_from_is_err_and c.from_residual-in_err-place.result c.from_residual-in_err-place.ensures.1 in
    rw (p.1, p.2) (times_stops (slot_of c.args.closed) c.places.places.items c.args.count c.places.counter c.places.rest.now (times (slot_of c.args.closed) c.args.count c.args.bytes.now) c.places.invariant c.in_err-place.field-0.0 c.places-test.true c.in_err-place.ensures)

pub places-preserved : goal.places-preserved
places-preserved c =
    rw c.in_ok-push.ensures.items (times_goes_on (slot_of c.args.closed) c.places.places.items c.args.count c.places.counter c.places.rest.now (times (slot_of c.args.closed) c.args.count c.args.bytes.now) c.places.invariant c.in_ok-place.place c.in_ok-place.after.now c.places-test.true c.in_ok-place.ensures)

pub returns : goal.returns
returns c = rw c.from_vec.ensures (times_done (slot_of c.args.closed) c.places.places.items c.args.count c.places.counter c.places.rest.now (times (slot_of c.args.closed) c.args.count c.args.bytes.now) c.places.invariant c.places-test.false)
