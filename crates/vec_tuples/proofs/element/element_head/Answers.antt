use Rattle.std.proofs.Common.{Some, ap, take, arith}
use Rattle.bit_code.specs.Places.{unpacked}
use Rattle.vec_tuples.specs.Spelling.{element_with, head_of_element}
use Rattle.vec_tuples.proofs.ElementLaws.{element_field}
use Rattle.vec_tuples.proofs.Wholes.{none_left, some_left, got_spelled, got_read, over_read, bad_read}
use Rattle.vec_tuples.proofs.element.element_head.Goals as goal

pub returns-then-is_empty-clause-spelled : goal.returns-then-is_empty-clause-spelled
returns-then-is_empty-clause-spelled c =
    let bits = take c.args.params.now.bits (unpacked c.in-Ok.field-0-1.now) in
    let told = got_spelled (element_field c.args.params.now c.requires) c.args.bytes.now (element_with c.in-Ok.head bits) c.in-Ok.rest.now (λ i. omega (arith, c.type_inv.bytes i)) c.in-Ok.ensures.reads (none_left c.in-Ok.rest.now c.is_empty.result c.is_empty.ensures c.if-is_empty.true) in
    (bits, told.0, told.1)

pub returns-then-is_empty-clause-read : goal.returns-then-is_empty-clause-read
returns-then-is_empty-clause-read c = λ e fits text.
    ap (λ x. Some (head_of_element x)) (got_read (element_field c.args.params.now c.requires) c.args.bytes.now (element_with c.in-Ok.head (take c.args.params.now.bits (unpacked c.in-Ok.field-0-1.now))) c.in-Ok.rest.now (λ i. omega (arith, c.type_inv.bytes i)) c.in-Ok.ensures.reads e fits text)

pub returns-else-is_empty-clause-read : goal.returns-else-is_empty-clause-read
returns-else-is_empty-clause-read c = λ e fits text.
    absurd (over_read (element_field c.args.params.now c.requires) c.args.bytes.now (element_with c.in-Ok.head (take c.args.params.now.bits (unpacked c.in-Ok.field-0-1.now))) c.in-Ok.rest.now (λ i. omega (arith, c.type_inv.bytes i)) c.in-Ok.ensures.reads (some_left c.in-Ok.rest.now c.is_empty.result c.is_empty.ensures c.if-is_empty.false) e fits text)

pub returns-in-Err-clause-read : goal.returns-in-Err-clause-read
returns-in-Err-clause-read c = λ e fits text.
    absurd (bad_read (element_field c.args.params.now c.requires) c.args.bytes.now c.in-Err.field-0 (λ i. omega (arith, c.type_inv.bytes i)) c.in-Err.ensures.reads e fits text)
