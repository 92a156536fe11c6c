use Rattle.std.proofs.Common.{List, subst}
use Rattle.page_bytes.specs.Content.{Content}
use Rattle.vec_recover.specs.Parts.{IsRedoneOn}
use Rattle.vec_recover.proofs.RedoneBlocks.{of_extended}
use Rattle.vec_recover.proofs.redoing.redo_event.Goals as goal

pub returns : goal.returns
returns c =
    of_extended c.args.how c.args.event.now c.args.pages.now.items c.redo_touched.new.pages.items c.redo_touched.result
    (subst (λ (pages : List Content). IsRedoneOn c.args.how c.args.event.now pages c.redo_touched.new.pages.items c.redo_touched.result)
    c.in_ok-extend.ensures.told c.redo_touched.ensures)
