use Rattle.std.proofs.Common.{◌≡◌, ◌++◌, drop}
use Rattle.graph_search.specs.Scan.{without_nearer}
use Rattle.hnsw_scan.specs.Answering.{given_in}
use Rattle.hnsw_scan.proofs.rows.without_nearer.Given as goal

abbrev pub invariant-loop-row : goal.invariant-loop-row
invariant-loop-row l =
    given_in l.answers ++ without_nearer l.nearest (given_in (drop l.row-index l.rows)) ≡ without_nearer l.fn.last (given_in l.rows)
