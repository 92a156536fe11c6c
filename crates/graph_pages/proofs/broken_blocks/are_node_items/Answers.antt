use Rattle.std.proofs.Common.{◌≡◌, true, sym, ◌∙◌, arith}
use Rattle.vec_names.specs.declared.tid.Tid.{Tid}
use Rattle.graph_pages.specs.Standing.{is_node_item}
use Rattle.graph_pages.proofs.PagePlaces.{off_more, item_within}
use Rattle.graph_pages.proofs.broken_blocks.are_node_items.Goals as goal

pub loop-i-preserved : goal.loop-i-preserved
loop-i-preserved c =
    off_more (λ (at : Tid). is_node_item c.args.params.now c.args.pages.now at ≡ true) c.place_on.result c.args.block c.loop-i.i c.place_on.ensures.block c.place_on.ensures.off
    c.loop-i.invariant (sym (c.is_node_item.ensures c.args.pages.now c.requires.items c.requires.named) ∙ c.if-not-is_node_item.false)

pub returns : goal.returns
returns c = λ at x same is.
    let within = item_within c.args.pages.now c.args.page.now at c.args.block x c.requires.there same is in
    c.loop-i.invariant at same (omega arith)
