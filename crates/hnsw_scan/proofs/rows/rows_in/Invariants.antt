use Rattle.std.proofs.Common.{◌≡◌, flat_map, take}
use Rattle.graph_search.specs.Scan.{rows_of}
use Rattle.graph_search.specs.ByHolding.{elements_in}
use Rattle.hnsw_scan.specs.Answering.{given_in}
use Rattle.hnsw_scan.proofs.rows.rows_in.Given as goal

abbrev pub invariant-loop-taken : goal.invariant-loop-taken
invariant-loop-taken l = given_in l.rows ≡ flat_map rows_of (elements_in (take l.taken-index l.batch))
