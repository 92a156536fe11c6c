use Rattle.std.proofs.Common.{◌≡◌, List, [], ◌++◌, length, take, get_or, ap, subst, ◌∙◌, arith}
use Rattle.graph_pages.specs.declared.decoded.Item.{Item}
use Rattle.std.specs.FinMap.{get, get-empty}
use Rattle.std.specs.Prelude.{flat_map}
use Rattle.vec_names.specs.Order.{tid_cmp}
use Rattle.graph_pages.specs.Decoding.{pointer_of, Tells}
use Rattle.graph_pages.proofs.PointerLaws.{pointers_more}
use Rattle.graph_pages.proofs.list_pointers.named_places.Goals as goal

pub loop-on_block-init : goal.loop-on_block-init
loop-on_block-init c = λ at. ap (λ m. get m at) c.new-named.ensures ∙ get-empty tid_cmp at

pub loop-on_block-preserved : goal.loop-on_block-preserved
loop-on_block-preserved c =
    let before = flat_map (flat_map pointer_of) (take c.loop-on_block.on_block-index c.args.items.now) in
    let items = c.args.items.now in
    let i = c.loop-on_block.on_block-index in
    let on_block = c.on_block-item.result in
    let shown : c.as_slice-on_block-items.result.now ≡ items = c.as_slice-on_block-items.ensures in
    pointers_more (flat_map pointer_of) (Tells c.add_block.new.named) [] items i on_block
    (c.on_block-item.is ∙ ap (λ (l : List (List Item)). get_or l i on_block) shown)
    (omega (arith, ap (λ (l : List (List Item)). length l) shown))
    (subst (λ (l : List Item). Tells c.add_block.new.named (before ++ flat_map pointer_of l)) c.as_slice.ensures (c.in_ok-add_block.ensures before c.loop-on_block.invariant))
