use Rattle.page_redo.proofs.ItemLaws.{element_there}
use Rattle.page_redo.proofs.in_place.change_head.Goals as goal

pub put_head-requires : goal.put_head-requires
put_head-requires c = element_there c.args.params.now c.args.page.now c.args.off _ c.in_ok-old.ensures.told c.in_ok-old.ensures.spelled
