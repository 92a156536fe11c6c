use Rattle.std.proofs.Common.{ap, refl, ◌∙◌}
use Rattle.std.specs.FinMap.{get, get-empty}
use Rattle.std.proofs.lemmas.Option.{slice_get_read}
use Rattle.vec_names.specs.Order.{tid_cmp}
use Rattle.graph_pages.proofs.FillingLaws.{filled_first, filled_all}
use Rattle.graph_pages.proofs.nodes.nodes_of.Goals as goal

pub loop-block-init : goal.loop-block-init
loop-block-init c = λ at. ap (λ m. get m at) c.new-nodes.ensures ∙ get-empty tid_cmp at ∙ filled_first c.args.params.now c.args.pages.now at

pub add_nodes-requires-clause-there : goal.add_nodes-requires-clause-there
add_nodes-requires-clause-there c = slice_get_read c.args.pages.now _ c.loop-block.block c.index-pages-block.result refl c.loop-block-test.true c.index-pages-block.is

pub returns : goal.returns
returns c = filled_all c.args.params.now c.args.pages.now c.loop-block.block c.loop-block.nodes c.loop-block-test.false c.loop-block.invariant
