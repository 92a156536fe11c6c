use Rattle.vec_tuples.specs.Spelling.{centre_bytes}
use Rattle.page_bytes.specs.Content.{item_at}
use Rattle.page_bytes.proofs.ItemChanges.{some_and}
use Rattle.page_redo.proofs.Lengths.{centre_long}
use Rattle.page_redo.proofs.tuple_changes.put_aim.Goals as goal

pub change_item-requires : goal.change_item-requires
change_item-requires c = some_and (item_at c.args.page.now.items c.args.off) _ (centre_bytes c.requires.0) c.requires.1 (centre_long c.requires.0)
