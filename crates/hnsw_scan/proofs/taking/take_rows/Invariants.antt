use Rattle.std.proofs.Common.{◌≡◌, [], length, take}
use Rattle.vec_steps.specs.Index.{Index}
use Rattle.vec_steps.specs.Calls.{Goes}
use Rattle.layer_search.specs.Telling.{OverSpots}
use Rattle.hnsw_scan.specs.Answering.{given_in}
use Rattle.hnsw_scan.specs.Gathering.{TakesRows}
use Rattle.hnsw_scan.proofs.taking.take_rows.Given as goal

-- the elements so far
abbrev pub invariant-loop-taken : goal.invariant-loop-taken
invariant-loop-taken g l =
    let S = g.S.Steps in
    let over : Index → Type 0 = OverSpots (S.stands l.fn.steps) (S.seen l.fn.steps) 0 [] in
    record {
      goes : Goes S.desk S.stands S.comes_from over l.fn.steps l.steps;
      bits : length l.told.bits ≡ (S.desk l.fn.steps).params.bits;
      so_far : TakesRows over (S.desk l.fn.steps) (S.seen l.fn.steps) (S.seen l.steps) l.fn.trace.reads l.trace.reads
          (S.desk l.fn.steps).params.ops l.query (take l.taken-index l.batch) [] (given_in l.answers);
    }
