use Rattle.std.proofs.Common.{take, arith}
use Rattle.bit_code.specs.Places.{unpacked}
use Rattle.vec_tuples.specs.Spelling.{centre_with}
use Rattle.vec_tuples.proofs.RowLaws.{centre_field}
use Rattle.vec_tuples.proofs.Wholes.{none_left, some_left, rest_shorter, taken_small, got_spelled, got_read, over_read, over_exact, over_start, bad_inside, bad_near, bad_read, bad_exact, bad_start}
use Rattle.vec_tuples.proofs.centre.read_centre.Goals as goal

pub overflow_sub-result : goal.overflow_sub-result
overflow_sub-result c = rest_shorter (centre_field c.args.params.now c.requires) c.args.bytes.now (centre_with c.in-Ok.first c.in-Ok.aim (take c.args.params.now.bits (unpacked c.in-Ok.places.now))) c.in-Ok.rest.now (λ i. omega (arith, c.type_inv.bytes i)) c.in-Ok.ensures.reads

pub overflow_cast-result : goal.overflow_cast-result
overflow_cast-result c = omega (arith, taken_small (centre_field c.args.params.now c.requires) c.args.bytes.now (centre_with c.in-Ok.first c.in-Ok.aim (take c.args.params.now.bits (unpacked c.in-Ok.places.now))) c.in-Ok.rest.now (λ i. omega (arith, c.type_inv.bytes i)) c.in-Ok.ensures.reads)

pub returns-then-not-is_empty-clause-read : goal.returns-then-not-is_empty-clause-read
returns-then-not-is_empty-clause-read c = λ w fits text. absurd (over_read (centre_field c.args.params.now c.requires) c.args.bytes.now (centre_with c.in-Ok.first c.in-Ok.aim (take c.args.params.now.bits (unpacked c.in-Ok.places.now))) c.in-Ok.rest.now (λ i. omega (arith, c.type_inv.bytes i)) c.in-Ok.ensures.reads (some_left c.in-Ok.rest.now c.is_empty.result c.is_empty.ensures c.if-not-is_empty.true) w fits text)

pub returns-then-not-is_empty-clause-exact : goal.returns-then-not-is_empty-clause-exact
returns-then-not-is_empty-clause-exact c = over_exact (centre_field c.args.params.now c.requires) c.args.bytes.now (centre_with c.in-Ok.first c.in-Ok.aim (take c.args.params.now.bits (unpacked c.in-Ok.places.now))) c.in-Ok.rest.now (λ i. omega (arith, c.type_inv.bytes i)) c.in-Ok.ensures.reads (some_left c.in-Ok.rest.now c.is_empty.result c.is_empty.ensures c.if-not-is_empty.true)

pub overflow_sub-result-in-Err : goal.overflow_sub-result-in-Err
overflow_sub-result-in-Err c = bad_inside (centre_field c.args.params.now c.requires) c.args.bytes.now c.in-Err.stop (λ i. omega (arith, c.type_inv.bytes i)) c.in-Err.ensures.reads

pub overflow_cast-result-in-Err : goal.overflow_cast-result-in-Err
overflow_cast-result-in-Err c = omega (arith, bad_near (centre_field c.args.params.now c.requires) c.args.bytes.now c.in-Err.stop (λ i. omega (arith, c.type_inv.bytes i)) c.in-Err.ensures.reads)

pub returns-in-Ok-from_bytes-clause-spelled : goal.returns-in-Ok-from_bytes-clause-spelled
returns-in-Ok-from_bytes-clause-spelled c = rw c.in-Ok-from_bytes.ensures.value (got_spelled (centre_field c.args.params.now c.requires) c.args.bytes.now (centre_with c.in-Ok.first c.in-Ok.aim (take c.args.params.now.bits (unpacked c.in-Ok.places.now))) c.in-Ok.rest.now (λ i. omega (arith, c.type_inv.bytes i)) c.in-Ok.ensures.reads (none_left c.in-Ok.rest.now c.is_empty.result c.is_empty.ensures c.if-not-is_empty.false))

pub returns-in-Ok-from_bytes-clause-read : goal.returns-in-Ok-from_bytes-clause-read
returns-in-Ok-from_bytes-clause-read c = λ w fits text. rw c.in-Ok-from_bytes.ensures.value (got_read (centre_field c.args.params.now c.requires) c.args.bytes.now (centre_with c.in-Ok.first c.in-Ok.aim (take c.args.params.now.bits (unpacked c.in-Ok.places.now))) c.in-Ok.rest.now (λ i. omega (arith, c.type_inv.bytes i)) c.in-Ok.ensures.reads w fits text)

pub returns-in-Err-clause-read : goal.returns-in-Err-clause-read
returns-in-Err-clause-read c = λ w fits text. absurd (bad_read (centre_field c.args.params.now c.requires) c.args.bytes.now c.in-Err.stop (λ i. omega (arith, c.type_inv.bytes i)) c.in-Err.ensures.reads w fits text)

pub returns-in-Err-clause-exact : goal.returns-in-Err-clause-exact
returns-in-Err-clause-exact c = bad_exact (centre_field c.args.params.now c.requires) c.args.bytes.now c.in-Err.stop (λ i. omega (arith, c.type_inv.bytes i)) c.in-Err.ensures.reads

pub returns-then-not-is_empty-clause-start : goal.returns-then-not-is_empty-clause-start
returns-then-not-is_empty-clause-start c = over_start (centre_field c.args.params.now c.requires) c.args.bytes.now (centre_with c.in-Ok.first c.in-Ok.aim (take c.args.params.now.bits (unpacked c.in-Ok.places.now))) c.in-Ok.rest.now (λ i. omega (arith, c.type_inv.bytes i)) c.in-Ok.ensures.reads

pub returns-in-Err-clause-start : goal.returns-in-Err-clause-start
returns-in-Err-clause-start c = bad_start (centre_field c.args.params.now c.requires) c.args.bytes.now c.in-Err.stop (λ i. omega (arith, c.type_inv.bytes i)) c.in-Err.ensures.reads
