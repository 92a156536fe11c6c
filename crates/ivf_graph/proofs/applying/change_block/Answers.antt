use Rattle.std.proofs.Common.{ap, sym, ◌∙◌, set, arith}
use Rattle.std.proofs.lemmas.List.Edits.{map_over_more}
use Rattle.ivf_graph.specs.Effect.{with_rows, row_change}
use Rattle.ivf_graph.proofs.applying.change_block.Goals as goal

pub loop-list-preserved : goal.loop-list-preserved
loop-list-preserved c =
    ap (set c.loop-list.list-items c.loop-list.list-index) (c.in_ok-change_list.ensures ∙ ap (with_rows c.args.block (row_change c.args.event.now)) (sym c.list-item.is))
    ∙ map_over_more (with_rows c.args.block (row_change c.args.event.now)) c.deref_mut-list-items.result.now c.loop-list.list-items
    c.loop-list.list-index c.list-item.result (omega arith) c.loop-list.invariant c.list-item.is
