use Rattle.std.proofs.Common.{arith, sym, ◌∙◌}
use Rattle.vec_tuples.specs.Spelling.{head_of_links}
use Rattle.vec_tuples.specs.Reading.{links}
use Rattle.vec_tuples.proofs.LinksLaws.{links_field}
use Rattle.page_redo.specs.PageTuples.{in_whole}
use Rattle.page_redo.proofs.ItemLaws.{told, whole_spelled, links_told, links_not_told}
use Rattle.page_redo.proofs.items.links_head_of.Goals as goal

pub returns-in-Some-clause-told : goal.returns-in-Some-clause-told
returns-in-Some-clause-told c =
    let p = c.args.params.now in
    let x = c.args.item.now in
    let read = told (links_field p c.requires) head_of_links x (λ i. omega (arith, c.type_inv.item i)) c.links_head.result c.links_head.ensures.spelled c.links_head.ensures.read in
    links_told (in_whole (links p x)) (c.in-Some.deleted, c.in-Some.version, c.in-Some.count) (sym c.in-Some.is ∙ read)

pub returns-in-None-clause-told : goal.returns-in-None-clause-told
returns-in-None-clause-told c =
    let p = c.args.params.now in
    let x = c.args.item.now in
    let read = told (links_field p c.requires) head_of_links x (λ i. omega (arith, c.type_inv.item i)) c.links_head.result c.links_head.ensures.spelled c.links_head.ensures.read in
    links_not_told (in_whole (links p x)) (sym c.in-None.is ∙ read)

pub returns-in-Some-clause-spelled : goal.returns-in-Some-clause-spelled
returns-in-Some-clause-spelled c = λ l is. whole_spelled (links_field c.args.params.now c.requires) c.args.item.now l (λ i. omega (arith, c.type_inv.item i)) is

pub returns-in-None-clause-spelled : goal.returns-in-None-clause-spelled
returns-in-None-clause-spelled c = λ l is. whole_spelled (links_field c.args.params.now c.requires) c.args.item.now l (λ i. omega (arith, c.type_inv.item i)) is
