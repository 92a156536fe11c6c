use Rattle.std.proofs.Common.{List, ◌∷◌, [], ◌++◌, ap, ◌∙◌, arith}
use Rattle.graph_pages.specs.declared.decoded.Item.{Item}
use Rattle.graph_pages.specs.Decoding.{item_of}
use Rattle.graph_pages.proofs.DecodedItems.{items_more}
use Rattle.graph_pages.proofs.decoded.items_on.Goals as goal

pub loop-i-preserved : goal.loop-i-preserved
loop-i-preserved c =
    c.in_ok-push.ensures.ok
    ∙ ap (λ (l : List Item). l ++ c.item_on.result ∷ []) c.loop-i.invariant
    ∙ items_more (item_of c.args.params.now c.args.blocks) c.args.page.now.items c.loop-i.i c.item_on.result (omega arith) c.item_on.ensures
