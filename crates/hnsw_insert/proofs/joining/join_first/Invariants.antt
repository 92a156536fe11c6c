use Rattle.std.proofs.Common.{◌≡◌, drop, length}
use Rattle.vec_steps.specs.Calls.{Goes}
use Rattle.hnsw_insert.specs.Over.{OverNodes}
use Rattle.hnsw_insert.proofs.Joins.{AsksSoFar}
use Rattle.hnsw_insert.proofs.joining.join_first.Given as goal

-- the elements so far did not take the id
abbrev pub invariant-loop-k : goal.invariant-loop-k
invariant-loop-k g l =
    let S = g.S.Steps in
    record {
      goes : Goes S.desk S.stands S.comes_from (OverNodes (S.stands l.fn.steps)) l.fn.steps l.steps;
      told : length l.told.bits ≡ (S.desk l.fn.steps).params.bits;
      so_far : AsksSoFar (OverNodes (S.stands l.fn.steps)) (S.desk l.fn.steps) (S.seen l.fn.steps) (S.seen l.steps) l.id l.bits l.near (drop l.k l.near);
    }
