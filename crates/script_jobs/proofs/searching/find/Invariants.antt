use Rattle.std.proofs.Common.{◌≡◌}
use Rattle.vec_steps.specs.Index.{Index}
use Rattle.vec_steps.specs.Calls.{Goes, HoldsNone}
use Rattle.hnsw_scan.specs.Scanning.{IsUnder, OverScan, held_in, last_in, wanted_of}
use Rattle.script_jobs.proofs.Batches.{SoFar}
use Rattle.script_jobs.proofs.searching.find.Given as goal

-- the batches so far, and what the state holds
abbrev pub invariant-batch : goal.invariant-batch
invariant-batch g l =
    let S = g.S.Steps in
    let s0 = l.fn.steps in
    let w = wanted_of l.fn.state in
    record {
      goes : Goes S.desk S.stands S.comes_from (S.stands s0) s0 l.steps;
      gates : HoldsNone (S.seen l.steps) (S.desk s0).number;
      kept : wanted_of l.state ≡ w;
      under : IsUnder l.state;
      told : (base : Index) → S.stands s0 base → OverScan (S.stands l.steps) (S.seen l.steps) l.state base;
      so_far : SoFar (S.stands s0) (S.desk s0) (S.seen s0) (S.seen l.steps) w l.limit (held_in l.state) (last_in l.state) l.findings.hits
          l.findings.end l.findings.reads;
    }
