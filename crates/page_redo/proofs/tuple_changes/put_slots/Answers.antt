use Rattle.std.proofs.Common.{arith}
use Rattle.vec_tuples.specs.Spelling.{links_bytes}
use Rattle.vec_tuples.proofs.SlotPlaces.{length-links_bytes}
use Rattle.page_bytes.specs.Content.{item_at}
use Rattle.page_bytes.proofs.ItemChanges.{some_and}
use Rattle.page_redo.proofs.tuple_changes.put_slots.Goals as goal

pub change_item-requires : goal.change_item-requires
change_item-requires c = some_and (item_at c.args.page.now.items c.args.off) _ (links_bytes c.requires.0) c.requires.1 (omega (arith, c.requires.3), omega (arith, length-links_bytes c.requires.0, c.requires.2))
