use Rattle.std.proofs.Common.{arith}
use Rattle.vec_tuples.specs.Spelling.{head_of_centre}
use Rattle.vec_tuples.proofs.RowLaws.{centre_field}
use Rattle.page_redo.proofs.ItemLaws.{told, whole_spelled}
use Rattle.page_redo.proofs.items.centre_head_of.Goals as goal

pub returns-clause-told : goal.returns-clause-told
returns-clause-told c =
    told (centre_field c.args.params.now c.requires) head_of_centre c.args.item.now (λ i. omega (arith, c.type_inv.item i)) c.centre_head.result c.centre_head.ensures.spelled c.centre_head.ensures.read

pub returns-clause-spelled : goal.returns-clause-spelled
returns-clause-spelled c = λ l is. whole_spelled (centre_field c.args.params.now c.requires) c.args.item.now l (λ i. omega (arith, c.type_inv.item i)) is
