use Rattle.std.proofs.Common.{◌≡◌, ◌++◌, map, take}
use Rattle.hnsw_scan.specs.Answering.{given_in}
use Rattle.script_jobs.specs.Searching.{hit_of}
use Rattle.script_jobs.proofs.findings.put_hits.Given as goal

abbrev pub invariant-loop-answer : goal.invariant-loop-answer
invariant-loop-answer l = l.hits ≡ l.fn.hits ++ map hit_of (given_in (take l.answer-index l.answers))
