use Rattle.std.proofs.Common.{◌≡◌, drop}
use Rattle.graph_search.specs.Scan.{last_dist}
use Rattle.hnsw_scan.specs.Answering.{given_in}
use Rattle.hnsw_scan.proofs.rows.last_dist.Given as goal

abbrev pub invariant-loop-answer : goal.invariant-loop-answer
invariant-loop-answer l = last_dist l.now (given_in (drop l.answer-index l.answers)) ≡ last_dist l.fn.last (given_in l.answers)
