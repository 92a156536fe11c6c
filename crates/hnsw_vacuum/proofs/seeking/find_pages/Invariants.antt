use Rattle.std.proofs.Common.{◌≡◌, [], length}
use Rattle.vec_steps.specs.Index.{Index}
use Rattle.vec_steps.specs.Calls.{Goes}
use Rattle.hnsw_vacuum.specs.Courses.{OverGraphs}
use Rattle.hnsw_vacuum.specs.Seeking.{MakesLooks, Seeks}
use Rattle.hnsw_vacuum.proofs.seeking.find_pages.Given as goal

-- the nodes without rows of the pages before this one are found
abbrev pub invariant-page : goal.invariant-page
invariant-page g l =
    let S = g.S.Steps in
    let over = OverGraphs (S.stands l.fn.steps) (λ h. Seeks h (S.seen l.fn.steps) (S.desk l.fn.steps).number 1 l.count [] l.fn.found) in
    record {
      goes : Goes S.desk S.stands S.comes_from over l.fn.steps l.steps;
      told : length l.told.bits ≡ (S.desk l.fn.steps).params.bits;
      looks : MakesLooks over (S.desk l.fn.steps) (S.seen l.fn.steps) (S.seen l.steps) l.fn.trace.reads l.trace.reads;
      so : (base : Index) → over base
          → OverGraphs (S.stands l.steps) (λ h. Seeks h (S.seen l.steps) (S.desk l.fn.steps).number l.block l.count [] l.found) base;
    }
