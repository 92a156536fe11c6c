use Rattle.std.proofs.lemmas.Result.{err_from_is_err_and}
use Rattle.vec_event.specs.Reading.{rising}
use Rattle.vec_event.proofs.Loops.{rising_goes_on, rising_stops, rising_done}
use Rattle.vec_event.proofs.counted.rising.Goals as goal

pub returns-in_err-offset : goal.returns-in_err-offset
returns-in_err-offset c =
    let p = err_from_is_err_and c.from_residual-in_err-offset.result c.from_residual-in_err-offset.ensures.1 in
    rw (p.1, p.2) (rising_stops c.offsets.offsets.items c.offsets.low c.args.count c.offsets.counter c.offsets.rest.now (rising 0 c.args.count c.args.bytes.now) c.offsets.invariant c.in_err-offset.field-0.0 c.offsets-test.true c.in_err-offset.ensures)

pub offsets-preserved : goal.offsets-preserved
offsets-preserved c =
    rw c.in_ok-push.ensures.items (rising_goes_on c.offsets.offsets.items c.offsets.low c.args.count c.offsets.counter c.offsets.rest.now (rising 0 c.args.count c.args.bytes.now) c.offsets.invariant c.in_ok-offset.offset c.in_ok-offset.after.now c.offsets-test.true c.in_ok-offset.ensures)

pub returns : goal.returns
returns c = rw c.from_vec.ensures (rising_done c.offsets.offsets.items c.offsets.low c.args.count c.offsets.counter c.offsets.rest.now (rising 0 c.args.count c.args.bytes.now) c.offsets.invariant c.offsets-test.false)
