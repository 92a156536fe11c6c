use Rattle.vec_tuples.specs.Spelling.{meta_bytes}
use Rattle.page_bytes.specs.Content.{item_at}
use Rattle.page_bytes.proofs.ItemChanges.{some_and}
use Rattle.page_redo.proofs.Lengths.{meta_long}
use Rattle.page_redo.proofs.tuple_changes.put_meta.Goals as goal

pub change_item-requires : goal.change_item-requires
change_item-requires c = some_and (item_at c.args.page.now.items 1) _ (meta_bytes c.requires.there.0) c.requires.there.1 (c.requires.meta, meta_long c.requires.there.0)
