use Rattle.std.proofs.Common.{◌++◌, ◌+◌, ap, sym, ◌∙◌, List, drop}
use Rattle.graph_search.specs.Scan.{without_nearer}
use Rattle.search_sets.proofs.Fronts.{drop_next}
use Rattle.hnsw_scan.specs.declared.answer.Answer.{Answer}
use Rattle.hnsw_scan.specs.Answering.{given_in}
use Rattle.hnsw_scan.proofs.rows.without_nearer.Goals as goal

pub loop-row-preserved : goal.loop-row-preserved
loop-row-preserved c =
    let rows : List Answer = c.args.rows.now in
    let i = c.loop-row.row-index in
    c.in_ok-nearest.ensures (given_in (drop (i + 1) rows))
    ∙ ap (λ (rest : List Answer). given_in c.loop-row.answers ++ without_nearer c.loop-row.nearest (given_in rest))
    (sym (drop_next rows i c.row-item.result c.loop-row-test.true c.row-item.is))
    ∙ c.loop-row.invariant
