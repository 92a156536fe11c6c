use Rattle.std.proofs.Common.{arith}
use Rattle.vec_tuples.specs.Spelling.{head_of_element}
use Rattle.vec_tuples.proofs.ElementLaws.{element_field}
use Rattle.page_redo.proofs.ItemLaws.{told, whole_spelled, head_told}
use Rattle.page_redo.proofs.items.head_of.Goals as goal

pub returns-clause-told : goal.returns-clause-told
returns-clause-told c =
    let p = c.args.params.now in
    let x = c.args.item.now in
    told (element_field p c.requires) head_of_element x (λ i. omega (arith, c.type_inv.item i)) c.element_head.result (head_told p x c.element_head.result c.element_head.ensures.spelled) c.element_head.ensures.read

pub returns-clause-spelled : goal.returns-clause-spelled
returns-clause-spelled c = λ e is. whole_spelled (element_field c.args.params.now c.requires) c.args.item.now e (λ i. omega (arith, c.type_inv.item i)) is
