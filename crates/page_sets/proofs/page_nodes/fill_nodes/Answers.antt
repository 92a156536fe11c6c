use Rattle.std.proofs.Common.{◌+◌, ◌++◌, map, arith}
use Rattle.vec_steps.specs.Telling.{seen_told}
use Rattle.page_sets.specs.Telling.{element_shown, all_shown}
use Rattle.page_sets.proofs.Shows.{one_more}
use Rattle.page_sets.proofs.page_nodes.fill_nodes.Goals as goal

pub items-preserved : goal.items-preserved
items-preserved c =
    let show = element_shown c.args.params.now c.args.block in
    one_more show (c.items.before + 1) c.items.before c.args.page.now.items (map seen_told c.items.nodes) (map seen_told c.add_node.new.nodes)
    (map seen_told c.args.nodes.now ++ all_shown show 1 c.args.page.now.items) (omega (arith, c.items-test.true, c.count-before-end.ensures)) c.items.invariant
    (λ x is. c.in_ok-add_node.ensures x is)
