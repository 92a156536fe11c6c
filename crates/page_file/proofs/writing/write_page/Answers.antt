use Rattle.std.proofs.Common.{◌*◌, ◌∙◌, length, ap}
use Rattle.page_file.proofs.Blocks.{length-page, same_range}
use Rattle.page_file.proofs.writing.write_page.Goals as goal
use Rattle.vec_outside.specs.declared.disks.Area.TheVariants.{Pages}

pub returns-clause-size : goal.returns-clause-size
returns-clause-size g c = length-page c.args.page.now c.bytes.ensures.page

pub returns-clause-written : goal.returns-clause-written
returns-clause-written g c =
    same_range Pages _ (8192 * c.args.block) _ 8192 _ _ (ap (λ n. 8192 * n) c.from.ensures) (ap length c.bytes.ensures.spelling ∙ length-page c.args.page.now c.bytes.ensures.page) c.write_at.ensures.written
