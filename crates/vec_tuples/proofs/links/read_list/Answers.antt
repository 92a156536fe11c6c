use Rattle.std.proofs.Common.{arith}
use Rattle.byte_fields.proofs.Loops.{halts_at}
use Rattle.vec_tuples.specs.Reading.{links}
use Rattle.vec_tuples.proofs.LinksLaws.{links_field}
use Rattle.vec_tuples.proofs.Wholes.{none_left, some_left, rest_shorter, taken_small, got_spelled, got_read, over_read, over_exact, over_start, bad_inside, bad_near, bad_read, bad_exact, bad_start}
use Rattle.vec_tuples.proofs.links.read_list.Goals as goal

pub overflow_sub-result : goal.overflow_sub-result
overflow_sub-result c = rest_shorter (links_field c.args.params.now c.requires) c.args.bytes.now c.in-Ok.read c.in-Ok.rest.now (λ i. omega (arith, c.type_inv.bytes i)) c.in-Ok.ensures

pub overflow_cast-result : goal.overflow_cast-result
overflow_cast-result c = omega (arith, taken_small (links_field c.args.params.now c.requires) c.args.bytes.now c.in-Ok.read c.in-Ok.rest.now (λ i. omega (arith, c.type_inv.bytes i)) c.in-Ok.ensures)

pub returns-then-not-is_empty-clause-read : goal.returns-then-not-is_empty-clause-read
returns-then-not-is_empty-clause-read c = λ w fits text. absurd (over_read (links_field c.args.params.now c.requires) c.args.bytes.now c.in-Ok.read c.in-Ok.rest.now (λ i. omega (arith, c.type_inv.bytes i)) c.in-Ok.ensures (some_left c.in-Ok.rest.now c.is_empty.result c.is_empty.ensures c.if-not-is_empty.true) w fits text)

pub returns-then-not-is_empty-clause-exact : goal.returns-then-not-is_empty-clause-exact
returns-then-not-is_empty-clause-exact c = over_exact (links_field c.args.params.now c.requires) c.args.bytes.now c.in-Ok.read c.in-Ok.rest.now (λ i. omega (arith, c.type_inv.bytes i)) c.in-Ok.ensures (some_left c.in-Ok.rest.now c.is_empty.result c.is_empty.ensures c.if-not-is_empty.true)

pub returns-then-not-is_empty-clause-start : goal.returns-then-not-is_empty-clause-start
returns-then-not-is_empty-clause-start c = over_start (links_field c.args.params.now c.requires) c.args.bytes.now c.in-Ok.read c.in-Ok.rest.now (λ i. omega (arith, c.type_inv.bytes i)) c.in-Ok.ensures

pub overflow_sub-result-in-Err-Stopped : goal.overflow_sub-result-in-Err-Stopped
overflow_sub-result-in-Err-Stopped c = bad_inside (links_field c.args.params.now c.requires) c.args.bytes.now c.in-Err-Stopped.stop (λ i. omega (arith, c.type_inv.bytes i)) (halts_at (links c.args.params.now c.args.bytes.now) c.in-Err-Stopped.field-0 c.in-Err-Stopped.stop c.in-Err-Stopped.field-0-is c.in-Err-Stopped.ensures)

pub overflow_cast-result-in-Err-Stopped : goal.overflow_cast-result-in-Err-Stopped
overflow_cast-result-in-Err-Stopped c = omega (arith, bad_near (links_field c.args.params.now c.requires) c.args.bytes.now c.in-Err-Stopped.stop (λ i. omega (arith, c.type_inv.bytes i)) (halts_at (links c.args.params.now c.args.bytes.now) c.in-Err-Stopped.field-0 c.in-Err-Stopped.stop c.in-Err-Stopped.field-0-is c.in-Err-Stopped.ensures))

pub returns-else-not-is_empty-clause-spelled : goal.returns-else-not-is_empty-clause-spelled
returns-else-not-is_empty-clause-spelled c = got_spelled (links_field c.args.params.now c.requires) c.args.bytes.now c.in-Ok.read c.in-Ok.rest.now (λ i. omega (arith, c.type_inv.bytes i)) c.in-Ok.ensures (none_left c.in-Ok.rest.now c.is_empty.result c.is_empty.ensures c.if-not-is_empty.false)

pub returns-else-not-is_empty-clause-read : goal.returns-else-not-is_empty-clause-read
returns-else-not-is_empty-clause-read c = λ w fits text. got_read (links_field c.args.params.now c.requires) c.args.bytes.now c.in-Ok.read c.in-Ok.rest.now (λ i. omega (arith, c.type_inv.bytes i)) c.in-Ok.ensures w fits text

pub returns-in-Err-Stopped-clause-read : goal.returns-in-Err-Stopped-clause-read
returns-in-Err-Stopped-clause-read c = λ w fits text. absurd (bad_read (links_field c.args.params.now c.requires) c.args.bytes.now c.in-Err-Stopped.stop (λ i. omega (arith, c.type_inv.bytes i)) (halts_at (links c.args.params.now c.args.bytes.now) c.in-Err-Stopped.field-0 c.in-Err-Stopped.stop c.in-Err-Stopped.field-0-is c.in-Err-Stopped.ensures) w fits text)

pub returns-in-Err-Stopped-clause-exact : goal.returns-in-Err-Stopped-clause-exact
returns-in-Err-Stopped-clause-exact c = bad_exact (links_field c.args.params.now c.requires) c.args.bytes.now c.in-Err-Stopped.stop (λ i. omega (arith, c.type_inv.bytes i)) (halts_at (links c.args.params.now c.args.bytes.now) c.in-Err-Stopped.field-0 c.in-Err-Stopped.stop c.in-Err-Stopped.field-0-is c.in-Err-Stopped.ensures)

pub returns-in-Err-Stopped-clause-start : goal.returns-in-Err-Stopped-clause-start
returns-in-Err-Stopped-clause-start c = bad_start (links_field c.args.params.now c.requires) c.args.bytes.now c.in-Err-Stopped.stop (λ i. omega (arith, c.type_inv.bytes i)) (halts_at (links c.args.params.now c.args.bytes.now) c.in-Err-Stopped.field-0 c.in-Err-Stopped.stop c.in-Err-Stopped.field-0-is c.in-Err-Stopped.ensures)
