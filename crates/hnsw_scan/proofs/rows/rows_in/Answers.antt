use Rattle.std.proofs.Common.{◌++◌, ap, ap₂, sym, ◌∙◌, List}
use Rattle.vec_names.specs.declared.heap_id.HeapId.{HeapId}
use Rattle.graph_search.specs.Scan.{Given}
use Rattle.hnsw_scan.specs.Answering.{rows_at}
use Rattle.hnsw_scan.proofs.RowsSoFar.{rows_more}
use Rattle.hnsw_scan.proofs.rows.rows_in.Goals as goal

pub loop-taken-preserved : goal.loop-taken-preserved
loop-taken-preserved c =
    let p = c.taken-item.result in
    c.in_ok-put_rows.ensures
    ∙ ap₂ (λ (a b : List Given). a ++ b) c.loop-taken.invariant
    (ap (λ (ids : List HeapId). rows_at p.0.at p.0.version p.0.dist ids) c.as_slice.ensures.value)
    ∙ sym (rows_more c.args.batch.now c.loop-taken.taken-index p c.loop-taken-test.true c.taken-item.is)
