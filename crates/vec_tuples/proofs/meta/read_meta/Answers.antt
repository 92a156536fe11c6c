use Rattle.std.proofs.Common.{arith}
use Rattle.vec_tuples.proofs.MetaLaws.{meta_field}
use Rattle.vec_tuples.proofs.Wholes.{none_left, some_left, rest_shorter, taken_small, got_spelled, got_read, over_read, over_exact, over_start, bad_inside, bad_near, bad_read, bad_exact, bad_start}
use Rattle.vec_tuples.proofs.meta.read_meta.Goals as goal

pub overflow_sub-result : goal.overflow_sub-result
overflow_sub-result c = rest_shorter meta_field c.args.bytes.now c.in-Ok.meta c.in-Ok.rest.now (λ i. omega (arith, c.type_inv.bytes i)) c.in-Ok.ensures

pub overflow_cast-result : goal.overflow_cast-result
overflow_cast-result c = omega (arith, taken_small meta_field c.args.bytes.now c.in-Ok.meta c.in-Ok.rest.now (λ i. omega (arith, c.type_inv.bytes i)) c.in-Ok.ensures)

pub overflow_sub-result-in-Err : goal.overflow_sub-result-in-Err
overflow_sub-result-in-Err c = bad_inside meta_field c.args.bytes.now c.in-Err.stop (λ i. omega (arith, c.type_inv.bytes i)) c.in-Err.ensures

pub overflow_cast-result-in-Err : goal.overflow_cast-result-in-Err
overflow_cast-result-in-Err c = omega (arith, bad_near meta_field c.args.bytes.now c.in-Err.stop (λ i. omega (arith, c.type_inv.bytes i)) c.in-Err.ensures)

pub returns-then-is_empty-clause-spelled : goal.returns-then-is_empty-clause-spelled
returns-then-is_empty-clause-spelled c = got_spelled meta_field c.args.bytes.now c.in-Ok.meta c.in-Ok.rest.now (λ i. omega (arith, c.type_inv.bytes i)) c.in-Ok.ensures (none_left c.in-Ok.rest.now c.is_empty.result c.is_empty.ensures c.if-is_empty.true)

pub returns-then-is_empty-clause-read : goal.returns-then-is_empty-clause-read
returns-then-is_empty-clause-read c = got_read meta_field c.args.bytes.now c.in-Ok.meta c.in-Ok.rest.now (λ i. omega (arith, c.type_inv.bytes i)) c.in-Ok.ensures

pub returns-else-is_empty-clause-read : goal.returns-else-is_empty-clause-read
returns-else-is_empty-clause-read c = over_read meta_field c.args.bytes.now c.in-Ok.meta c.in-Ok.rest.now (λ i. omega (arith, c.type_inv.bytes i)) c.in-Ok.ensures (some_left c.in-Ok.rest.now c.is_empty.result c.is_empty.ensures c.if-is_empty.false)

pub returns-else-is_empty-clause-exact : goal.returns-else-is_empty-clause-exact
returns-else-is_empty-clause-exact c = over_exact meta_field c.args.bytes.now c.in-Ok.meta c.in-Ok.rest.now (λ i. omega (arith, c.type_inv.bytes i)) c.in-Ok.ensures (some_left c.in-Ok.rest.now c.is_empty.result c.is_empty.ensures c.if-is_empty.false)

pub returns-in-Err-clause-read : goal.returns-in-Err-clause-read
returns-in-Err-clause-read c = bad_read meta_field c.args.bytes.now c.in-Err.stop (λ i. omega (arith, c.type_inv.bytes i)) c.in-Err.ensures

pub returns-in-Err-clause-exact : goal.returns-in-Err-clause-exact
returns-in-Err-clause-exact c = bad_exact meta_field c.args.bytes.now c.in-Err.stop (λ i. omega (arith, c.type_inv.bytes i)) c.in-Err.ensures

pub returns-else-is_empty-clause-start : goal.returns-else-is_empty-clause-start
returns-else-is_empty-clause-start c = over_start meta_field c.args.bytes.now c.in-Ok.meta c.in-Ok.rest.now (λ i. omega (arith, c.type_inv.bytes i)) c.in-Ok.ensures

pub returns-in-Err-clause-start : goal.returns-in-Err-clause-start
returns-in-Err-clause-start c = bad_start meta_field c.args.bytes.now c.in-Err.stop (λ i. omega (arith, c.type_inv.bytes i)) c.in-Err.ensures
