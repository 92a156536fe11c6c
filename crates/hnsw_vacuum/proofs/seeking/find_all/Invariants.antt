use Rattle.std.proofs.Common.{◌≡◌, ℕ, drop, length, map}
use Rattle.vec_steps.specs.Index.{Index}
use Rattle.vec_steps.specs.Telling.{seen_told}
use Rattle.vec_steps.specs.Calls.{Goes}
use Rattle.hnsw_vacuum.specs.Courses.{OverGraphs, OverNodes}
use Rattle.hnsw_vacuum.specs.Seeking.{MakesLooks, Seeks}
use Rattle.hnsw_vacuum.proofs.seeking.find_all.Given as goal

-- the nodes before this one were looked at
abbrev pub invariant-node : goal.invariant-node
invariant-node g l =
    let S = g.S.Steps in
    record {
      goes : Goes S.desk S.stands S.comes_from (OverNodes (S.stands l.fn.steps)) l.fn.steps l.steps;
      told : length l.told.bits ≡ (S.desk l.fn.steps).params.bits;
      looks : MakesLooks (OverNodes (S.stands l.fn.steps)) (S.desk l.fn.steps) (S.seen l.fn.steps) (S.seen l.steps) l.fn.trace.reads l.trace.reads;
      so : (base : Index) (bound count : ℕ) → OverGraphs (S.stands l.fn.steps) (λ h. Seeks h (S.seen l.fn.steps) (S.desk l.fn.steps).number bound count
          (map seen_told l.nodes) l.fn.found) base
          → OverGraphs (S.stands l.steps) (λ h. Seeks h (S.seen l.steps) (S.desk l.fn.steps).number bound count (map seen_told (drop l.k l.nodes)) l.found) base;
    }
