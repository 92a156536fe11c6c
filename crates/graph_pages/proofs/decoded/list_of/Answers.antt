use Rattle.vec_tuples.specs.Reading.{links}
use Rattle.page_redo.specs.PageTuples.{in_whole}
use Rattle.graph_pages.proofs.DecodedItems.{list_told}
use Rattle.graph_pages.proofs.decoded.list_of.Goals as goal

pub returns-in-Some : goal.returns-in-Some
returns-in-Some c =
    list_told c.args.blocks c.in-Some.head (in_whole (links c.args.params.now c.args.item.now)) c.are_slots_below.result c.in-Some.ensures.told
    (λ l is. c.are_slots_below.ensures l (c.in-Some.ensures.spelled l is).1)
