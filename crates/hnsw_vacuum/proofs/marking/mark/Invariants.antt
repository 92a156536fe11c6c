use Rattle.std.proofs.Common.{◌≡◌, [], drop, length, take}
use Rattle.std.specs.List.{AllByRecursion}
use Rattle.vec_steps.specs.Index.{Index}
use Rattle.vec_steps.specs.Calls.{Goes}
use Rattle.hnsw_vacuum.specs.Marking.{DeletesDoomed, IsDeletedBy, IsOfMarks, MarksNodes}
use Rattle.hnsw_vacuum.proofs.Turns.{SoFar}
use Rattle.hnsw_vacuum.proofs.Marks.{MarkingAll}
use Rattle.hnsw_vacuum.proofs.marking.mark.Given as goal

-- the nodes before this one were deleted, and those from it on stand without rows
abbrev pub invariant-node : goal.invariant-node
invariant-node g l =
    let S = g.S.Steps in
    let over = MarkingAll (S.stands l.fn.steps) (S.seen l.fn.steps) (S.desk l.fn.steps).number l.nodes in
    record {
      goes : Goes S.desk S.stands S.comes_from over l.fn.steps l.steps;
      told : length l.told.bits ≡ (S.desk l.fn.steps).params.bits;
      so_far : SoFar IsOfMarks DeletesDoomed over (S.desk l.fn.steps) (S.seen l.fn.steps) (S.seen l.steps) [] [] (MarksNodes l.nodes)
          (MarksNodes (drop l.k l.nodes)) l.fn.tally l.now;
      deleted : (base : Index) → over base
          → AllByRecursion (IsDeletedBy (S.seen l.fn.steps) (S.seen l.steps) (S.desk l.fn.steps).number) (take l.k l.nodes);
      may : (base : Index) → over base → MarkingAll (S.stands l.steps) (S.seen l.steps) (S.desk l.fn.steps).number (drop l.k l.nodes) base;
    }
