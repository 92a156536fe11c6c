use Rattle.page_redo.proofs.ItemLaws.{centre_there}
use Rattle.page_redo.proofs.list_pages.aim.Goals as goal

pub put_aim-requires : goal.put_aim-requires
put_aim-requires c = centre_there c.args.params.now c.args.page.now c.list_offset-off.result _ c.in_ok-_head.ensures.told c.in_ok-_head.ensures.spelled
