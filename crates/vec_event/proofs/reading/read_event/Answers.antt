use Rattle.std.proofs.Common.{arith}
use Rattle.byte_fields.specs.declared.stop.Cause.TheVariants as causes
use Rattle.byte_fields.proofs.Loops.{halts_at, stops_at}
use Rattle.vec_event.specs.Reading.{event}
use Rattle.vec_event.proofs.Readings.{rest_shorter, got_spelled, got_read, got_cut, got_exact, bad_inside, bad_near, bad_read, bad_cut, bad_exact, short_read}
use Rattle.vec_event.proofs.reading.read_event.Goals as goal

pub overflow_sub-result : goal.overflow_sub-result
overflow_sub-result c = rest_shorter c.args.bytes.now c.in-Ok.event c.in-Ok.rest.now (λ i. omega (arith, c.type_inv.bytes i)) c.in-Ok.ensures

pub returns-in-Ok-clause-spelled : goal.returns-in-Ok-clause-spelled
returns-in-Ok-clause-spelled c = got_spelled c.args.bytes.now c.in-Ok.event c.in-Ok.rest.now (λ i. omega (arith, c.type_inv.bytes i)) c.in-Ok.ensures

pub returns-in-Ok-clause-read : goal.returns-in-Ok-clause-read
returns-in-Ok-clause-read c = got_read c.args.bytes.now c.in-Ok.event c.in-Ok.rest.now (λ i. omega (arith, c.type_inv.bytes i)) c.in-Ok.ensures

pub returns-in-Ok-clause-cut : goal.returns-in-Ok-clause-cut
returns-in-Ok-clause-cut c = got_cut c.args.bytes.now c.in-Ok.event c.in-Ok.rest.now (λ i. omega (arith, c.type_inv.bytes i)) c.in-Ok.ensures

pub returns-in-Ok-clause-exact : goal.returns-in-Ok-clause-exact
returns-in-Ok-clause-exact c = got_exact c.args.bytes.now c.in-Ok.event c.in-Ok.rest.now (λ i. omega (arith, c.type_inv.bytes i)) c.in-Ok.ensures

pub overflow_sub-result-in-Bad : goal.overflow_sub-result-in-Bad
overflow_sub-result-in-Bad c = bad_inside c.args.bytes.now c.in-Err-Stopped.stop.left (λ i. omega (arith, c.type_inv.bytes i)) (stops_at (event c.args.bytes.now) c.in-Err-Stopped.stop causes.Bad c.in-Bad.is (halts_at (event c.args.bytes.now) c.in-Err-Stopped.field-0 c.in-Err-Stopped.stop c.in-Err-Stopped.field-0-is c.in-Err-Stopped.ensures))

pub overflow_cast-result : goal.overflow_cast-result
overflow_cast-result c = omega (arith, bad_near c.args.bytes.now c.in-Err-Stopped.stop.left (λ i. omega (arith, c.type_inv.bytes i)) (stops_at (event c.args.bytes.now) c.in-Err-Stopped.stop causes.Bad c.in-Bad.is (halts_at (event c.args.bytes.now) c.in-Err-Stopped.field-0 c.in-Err-Stopped.stop c.in-Err-Stopped.field-0-is c.in-Err-Stopped.ensures)))

pub returns-in-Short-clause-read : goal.returns-in-Short-clause-read
returns-in-Short-clause-read c = λ e rest typed writable text. absurd (short_read c.args.bytes.now c.in-Err-Stopped.stop.left (stops_at (event c.args.bytes.now) c.in-Err-Stopped.stop causes.Short c.in-Short.is (halts_at (event c.args.bytes.now) c.in-Err-Stopped.field-0 c.in-Err-Stopped.stop c.in-Err-Stopped.field-0-is c.in-Err-Stopped.ensures)) e rest typed writable text)

pub returns-in-Bad-clause-read : goal.returns-in-Bad-clause-read
returns-in-Bad-clause-read c = λ e rest typed writable text. absurd (bad_read c.args.bytes.now c.in-Err-Stopped.stop.left (λ i. omega (arith, c.type_inv.bytes i)) (stops_at (event c.args.bytes.now) c.in-Err-Stopped.stop causes.Bad c.in-Bad.is (halts_at (event c.args.bytes.now) c.in-Err-Stopped.field-0 c.in-Err-Stopped.stop c.in-Err-Stopped.field-0-is c.in-Err-Stopped.ensures)) e rest typed writable text)

pub returns-in-Bad-clause-cut : goal.returns-in-Bad-clause-cut
returns-in-Bad-clause-cut c = λ e more typed writable cut not_all not_memory. absurd (bad_cut c.args.bytes.now c.in-Err-Stopped.stop.left (λ i. omega (arith, c.type_inv.bytes i)) (stops_at (event c.args.bytes.now) c.in-Err-Stopped.stop causes.Bad c.in-Bad.is (halts_at (event c.args.bytes.now) c.in-Err-Stopped.field-0 c.in-Err-Stopped.stop c.in-Err-Stopped.field-0-is c.in-Err-Stopped.ensures)) e more typed writable cut)

pub returns-in-Bad-clause-exact : goal.returns-in-Bad-clause-exact
returns-in-Bad-clause-exact c = bad_exact c.args.bytes.now c.in-Err-Stopped.stop.left (λ i. omega (arith, c.type_inv.bytes i)) (stops_at (event c.args.bytes.now) c.in-Err-Stopped.stop causes.Bad c.in-Bad.is (halts_at (event c.args.bytes.now) c.in-Err-Stopped.field-0 c.in-Err-Stopped.stop c.in-Err-Stopped.field-0-is c.in-Err-Stopped.ensures))
