use Rattle.std.proofs.Common.{Some, ap, refl, take, arith}
use Rattle.bit_code.specs.Places.{unpacked}
use Rattle.vec_tuples.specs.Spelling.{centre_with, head_of_centre}
use Rattle.vec_tuples.proofs.RowLaws.{centre_field}
use Rattle.vec_tuples.proofs.Wholes.{none_left, some_left, got_spelled, got_read, over_read, bad_read}
use Rattle.vec_tuples.proofs.centre.centre_head.Goals as goal

pub returns-then-is_empty-clause-spelled : goal.returns-then-is_empty-clause-spelled
returns-then-is_empty-clause-spelled c =
    let l = centre_with c.in-Ok.first c.in-Ok.aim (take c.args.params.now.bits (unpacked c.in-Ok.field-0-2.now)) in
    let told = got_spelled (centre_field c.args.params.now c.requires) c.args.bytes.now l c.in-Ok.rest.now (λ i. omega (arith, c.type_inv.bytes i)) c.in-Ok.ensures.reads (none_left c.in-Ok.rest.now c.is_empty.result c.is_empty.ensures c.if-is_empty.true) in
    (l, told.0, told.1, refl)

pub returns-then-is_empty-clause-read : goal.returns-then-is_empty-clause-read
returns-then-is_empty-clause-read c = λ l fits text.
    ap (λ x. Some (head_of_centre x)) (got_read (centre_field c.args.params.now c.requires) c.args.bytes.now (centre_with c.in-Ok.first c.in-Ok.aim (take c.args.params.now.bits (unpacked c.in-Ok.field-0-2.now))) c.in-Ok.rest.now (λ i. omega (arith, c.type_inv.bytes i)) c.in-Ok.ensures.reads l fits text)

pub returns-else-is_empty-clause-read : goal.returns-else-is_empty-clause-read
returns-else-is_empty-clause-read c = λ l fits text.
    absurd (over_read (centre_field c.args.params.now c.requires) c.args.bytes.now (centre_with c.in-Ok.first c.in-Ok.aim (take c.args.params.now.bits (unpacked c.in-Ok.field-0-2.now))) c.in-Ok.rest.now (λ i. omega (arith, c.type_inv.bytes i)) c.in-Ok.ensures.reads (some_left c.in-Ok.rest.now c.is_empty.result c.is_empty.ensures c.if-is_empty.false) l fits text)

pub returns-in-Err-clause-read : goal.returns-in-Err-clause-read
returns-in-Err-clause-read c = λ l fits text.
    absurd (bad_read (centre_field c.args.params.now c.requires) c.args.bytes.now c.in-Err.field-0 (λ i. omega (arith, c.type_inv.bytes i)) c.in-Err.ensures.reads l fits text)
