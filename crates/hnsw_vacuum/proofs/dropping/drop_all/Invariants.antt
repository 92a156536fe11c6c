use Rattle.std.proofs.Common.{◌≡◌, Bool, [], drop, length, map, take}
use Rattle.vec_names.specs.declared.heap_id.HeapId.{HeapId}
use Rattle.vec_steps.specs.Index.{Index}
use Rattle.vec_steps.specs.Telling.{seen_told}
use Rattle.vec_steps.specs.Calls.{Goes}
use Rattle.hnsw_vacuum.specs.Dropping.{DropsNodes, IsOfDrops, TakesDead}
use Rattle.hnsw_vacuum.specs.Taking.{IsOfNodes, IsPlaceOfAny, SeesToOver}
use Rattle.hnsw_vacuum.proofs.Turns.{SoFar}
use Rattle.hnsw_vacuum.proofs.InOrder.{DroppingAll}
use Rattle.hnsw_vacuum.proofs.dropping.drop_all.Given as goal

-- the nodes before this one were seen to, and those from it on stand as they were told
abbrev pub invariant-node : goal.invariant-node
invariant-node g l =
    let S = g.S.Steps in
    let J : HeapId → Bool → Type 0 = λ id b. g.F.Fn.post l.dead (id, tt) b in
    let over = DroppingAll (S.stands l.fn.steps) (S.seen l.fn.steps) (S.desk l.fn.steps).number (map seen_told l.nodes) in
    record {
      goes : Goes S.desk S.stands S.comes_from over l.fn.steps l.steps;
      told : length l.told.bits ≡ (S.desk l.fn.steps).params.bits;
      so_far : SoFar IsOfDrops (TakesDead J) over (S.desk l.fn.steps) (S.seen l.fn.steps) (S.seen l.steps) [] [] (DropsNodes J (map seen_told l.nodes))
          (DropsNodes J (drop l.k (map seen_told l.nodes))) l.fn.tally l.now;
      sees_to : (base : Index) → over base → SeesToOver J (IsOfNodes (take l.k (map seen_told l.nodes))) (IsPlaceOfAny (take l.k (map seen_told l.nodes)))
          (S.seen l.fn.steps) (S.seen l.steps) (S.desk l.fn.steps).number base;
      may : (base : Index) → over base
          → DroppingAll (S.stands l.steps) (S.seen l.steps) (S.desk l.fn.steps).number (drop l.k (map seen_told l.nodes)) base;
    }
