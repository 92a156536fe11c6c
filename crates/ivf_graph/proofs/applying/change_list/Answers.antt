use Rattle.std.proofs.Common.{ap, sym, ◌∙◌, set, arith}
use Rattle.std.proofs.lemmas.List.Edits.{map_over_more}
use Rattle.ivf_graph.specs.Effect.{changed_part, row_change}
use Rattle.ivf_graph.proofs.applying.change_list.Goals as goal

pub loop-part-preserved : goal.loop-part-preserved
loop-part-preserved c =
    ap (set c.loop-part.part-items c.loop-part.part-index) (c.in_ok-change_part.ensures ∙ ap (changed_part c.args.block (row_change c.args.event.now)) (sym c.part-item.is))
    ∙ map_over_more (changed_part c.args.block (row_change c.args.event.now)) c.deref_mut-part-items.result.now c.loop-part.part-items
    c.loop-part.part-index c.part-item.result (omega arith) c.loop-part.invariant c.part-item.is
