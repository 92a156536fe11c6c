use Rattle.std.proofs.Common.{Some, ap, ◌∙◌, arith}
use Rattle.vec_tuples.specs.Spelling.{head_of_links}
use Rattle.vec_tuples.proofs.LinksLaws.{links_field}
use Rattle.vec_tuples.proofs.Wholes.{none_left, some_left, got_spelled, got_read, over_read, bad_read}
use Rattle.vec_tuples.proofs.links_in_place.links_head.Goals as goal

pub returns-then-is_empty-clause-spelled : goal.returns-then-is_empty-clause-spelled
returns-then-is_empty-clause-spelled c =
    let e = c.in-Ok.ensures in
    let g = got_spelled (links_field c.args.params.now c.requires) c.args.bytes.now e.0 c.in-Ok.rest.now (λ i. omega (arith, c.type_inv.bytes i)) e.1 (none_left c.in-Ok.rest.now c.is_empty.result c.is_empty.ensures c.if-is_empty.true) in
    (e.0, g.0, g.1, e.2)

pub returns-then-is_empty-clause-read : goal.returns-then-is_empty-clause-read
returns-then-is_empty-clause-read c = λ l fits text.
    let e = c.in-Ok.ensures in
    ap (λ h. Some h) (e.2 ∙ ap head_of_links (got_read (links_field c.args.params.now c.requires) c.args.bytes.now e.0 c.in-Ok.rest.now (λ i. omega (arith, c.type_inv.bytes i)) e.1 l fits text))

pub returns-else-is_empty-clause-read : goal.returns-else-is_empty-clause-read
returns-else-is_empty-clause-read c = λ l fits text.
    let e = c.in-Ok.ensures in
    absurd (over_read (links_field c.args.params.now c.requires) c.args.bytes.now e.0 c.in-Ok.rest.now (λ i. omega (arith, c.type_inv.bytes i)) e.1 (some_left c.in-Ok.rest.now c.is_empty.result c.is_empty.ensures c.if-is_empty.false) l fits text)

pub returns-in-Err-clause-read : goal.returns-in-Err-clause-read
returns-in-Err-clause-read c = λ l fits text.
    absurd (bad_read (links_field c.args.params.now c.requires) c.args.bytes.now c.in-Err.field-0 (λ i. omega (arith, c.type_inv.bytes i)) c.in-Err.ensures l fits text)
