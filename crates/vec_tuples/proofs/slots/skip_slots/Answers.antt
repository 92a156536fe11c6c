use Rattle.std.proofs.Common.{◌∷◌, [], ◌++◌, ◌∙◌, arith}
use Rattle.std.proofs.lemmas.List.{length-append}
use Rattle.std.proofs.lemmas.Result.{err_from_is_err_and}
use Rattle.byte_fields.proofs.Loops.{times_goes_on, times_stops, times_done}
use Rattle.byte_fields.specs.Reading.{times, slot_of}
use Rattle.vec_tuples.proofs.slots.skip_slots.Goals as goal

pub returns-in_err-after : goal.returns-in_err-after
returns-in_err-after c =
    let p = err_from_is_err_and c.from_residual.result c.from_residual.ensures.1 in
    rw (p.1, p.2) (times_stops (slot_of c.args.deleted) c.places.invariant.0 c.args.count c.places.counter c.places.rest.now (times (slot_of c.args.deleted) c.args.count c.args.bytes.now) c.places.invariant.2 c.in_err-after.field-0.0 c.places-test.true c.in_err-after.ensures)

pub places-preserved : goal.places-preserved
places-preserved c =
    let so_far = c.places.invariant in (
      so_far.0 ++ c.in_ok-after.field-0-0 ∷ [],
      length-append so_far.0 (c.in_ok-after.field-0-0 ∷ []) ∙ omega (arith, so_far.1),
      times_goes_on (slot_of c.args.deleted) so_far.0 c.args.count c.places.counter c.places.rest.now (times (slot_of c.args.deleted) c.args.count c.args.bytes.now) so_far.2 c.in_ok-after.field-0-0 c.in_ok-after.after.now c.places-test.true c.in_ok-after.ensures,
    )

pub returns : goal.returns
returns c =
    let so_far = c.places.invariant in
    (so_far.0, times_done (slot_of c.args.deleted) so_far.0 c.args.count c.places.counter c.places.rest.now (times (slot_of c.args.deleted) c.args.count c.args.bytes.now) so_far.2 c.places-test.false, omega (arith, so_far.1))
