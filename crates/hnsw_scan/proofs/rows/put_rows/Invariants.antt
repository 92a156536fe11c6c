use Rattle.std.proofs.Common.{◌≡◌, ◌++◌, take}
use Rattle.hnsw_scan.specs.Answering.{given_in, rows_at}
use Rattle.hnsw_scan.proofs.rows.put_rows.Given as goal

abbrev pub invariant-loop-id : goal.invariant-loop-id
invariant-loop-id l = given_in l.into ≡ given_in l.fn.into ++ rows_at l.at l.version l.dist (take l.id-index l.ids)
