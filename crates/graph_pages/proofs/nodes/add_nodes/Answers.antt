use Rattle.std.proofs.Common.{ap, ◌∙◌, arith}
use Rattle.std.specs.FinMap.{get}
use Rattle.graph_pages.proofs.FillingLaws.{filled_more, filled_block}
use Rattle.graph_pages.proofs.nodes.add_nodes.Goals as goal

pub loop-i-preserved : goal.loop-i-preserved
loop-i-preserved c = λ at.
    ap (λ m. get m at) c.in_ok-add_node.ensures
    ∙ filled_more c.args.params.now c.args.pages.now c.args.block c.loop-i.i c.loop-i.nodes c.place_on.result c.place_on.ensures.block c.place_on.ensures.off c.loop-i.invariant at

pub returns : goal.returns
returns c = filled_block c.args.params.now c.args.pages.now c.args.page.now c.args.block c.loop-i.i c.loop-i.nodes c.requires.there (omega arith) c.loop-i.invariant
