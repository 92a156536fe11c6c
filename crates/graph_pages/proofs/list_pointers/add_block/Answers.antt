use Rattle.std.proofs.Common.{◌++◌, take}
use Rattle.std.specs.Prelude.{flat_map}
use Rattle.graph_pages.specs.Decoding.{pointer_of, Tells}
use Rattle.graph_pages.proofs.PointerLaws.{pointers_more}
use Rattle.graph_pages.proofs.list_pointers.add_block.Goals as goal

pub loop-item-preserved : goal.loop-item-preserved
loop-item-preserved c = λ places tells.
    let before = places ++ flat_map pointer_of (take c.loop-item.item-index c.args.items.now) in
    pointers_more pointer_of (Tells c.add_item.new.named) places c.args.items.now c.loop-item.item-index c.item-item.result c.item-item.is c.loop-item-test.true
    (c.in_ok-add_item.ensures before (c.loop-item.invariant places tells))
