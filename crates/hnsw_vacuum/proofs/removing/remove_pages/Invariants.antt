use Rattle.std.proofs.Common.{◌≡◌, ◌-◌, ◌≤◌, Bool, length}
use Rattle.vec_names.specs.declared.heap_id.HeapId.{HeapId}
use Rattle.vec_steps.specs.Index.{Index}
use Rattle.vec_steps.specs.Calls.{Goes}
use Rattle.hnsw_vacuum.specs.Dropping.{TakesDead}
use Rattle.hnsw_vacuum.specs.Removing.{DropsPages, IsOfRemove}
use Rattle.hnsw_vacuum.specs.Taking.{IsOfBlocks, IsOnBlock, SeesToOver}
use Rattle.hnsw_vacuum.proofs.Turns.{SoFar}
use Rattle.hnsw_vacuum.proofs.Pages.{Removing}
use Rattle.hnsw_vacuum.proofs.removing.remove_pages.Given as goal

-- the pages before this one were seen to, and all the blocks are there
abbrev pub invariant-page : goal.invariant-page
invariant-page g l =
    let S = g.S.Steps in
    let J : HeapId → Bool → Type 0 = λ id b. g.F.Fn.post l.dead (id, tt) b in
    let over = Removing (S.stands l.fn.steps) (S.seen l.fn.steps) (S.desk l.fn.steps).number l.count in
    record {
      goes : Goes S.desk S.stands S.comes_from over l.fn.steps l.steps;
      told : length l.told.bits ≡ (S.desk l.fn.steps).params.bits;
      from : 1 ≤ l.block;
      so_far : SoFar IsOfRemove (TakesDead J) over (S.desk l.fn.steps) (S.seen l.fn.steps) (S.seen l.steps) l.fn.trace.reads l.trace.reads
          (DropsPages J 1 (l.count - 1)) (DropsPages J l.block (l.count - l.block)) l.fn.tally l.now;
      sees_to : (base : Index) → over base → SeesToOver J (IsOfBlocks 1 l.block) (IsOnBlock 1 l.block) (S.seen l.fn.steps) (S.seen l.steps)
          (S.desk l.fn.steps).number base;
      may : (base : Index) → over base → Removing (S.stands l.steps) (S.seen l.steps) (S.desk l.fn.steps).number l.count base;
    }
