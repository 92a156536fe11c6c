use Rattle.std.proofs.Common.{◌≡◌, ◌+◌, length, List, sym, subst, arith}
use Rattle.ivf_graph.specs.Graph.{Row}
use Rattle.ivf_pages.proofs.ReadRows.{AreRead, one_more, fault_at, all_read}
use Rattle.ivf_pages.proofs.entry_rows.rows_of_pages.Goals as goal

pub returns-in-Err : goal.returns-in-Err
returns-in-Err c =
    fault_at c.args.params.now c.args.pages.now c.loop-block.block c.loop-block.rows.items c.loop-block.invariant c.in-Err.fault c.in-Err.ensures

pub loop-block-preserved : goal.loop-block-preserved
loop-block-preserved c =
    subst (λ (rows : List (List Row)). AreRead c.args.params.now c.args.pages.now (c.loop-block.block + 1) rows) (sym c.in_ok-push-in-Ok.ensures.items)
    (one_more c.args.params.now c.args.pages.now c.loop-block.block c.loop-block.rows.items c.loop-block.invariant c.in-Ok.on_block c.in-Ok.ensures)

pub returns : goal.returns
returns c =
    let all : c.loop-block.block ≡ length c.args.pages.now = omega (arith, c.loop-block-test.false, c.loop-block.auto.block-end) in
    subst (λ (rows : List (List Row)). AreRead c.args.params.now c.args.pages.now (length c.args.pages.now) rows) (sym c.from_vec.ensures)
    (all_read c.args.params.now c.args.pages.now c.loop-block.block c.loop-block.rows.items c.loop-block.invariant all)
