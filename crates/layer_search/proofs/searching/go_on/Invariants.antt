use Rattle.std.proofs.Common.{◌≡◌, [], length}
use Rattle.graph_search.specs.Descent.{start_at}
use Rattle.search_sets.specs.Standing.{held, wanted}
use Rattle.vec_steps.specs.Index.{Index}
use Rattle.vec_steps.specs.Calls.{Goes}
use Rattle.layer_search.specs.Waiting.{IsReady}
use Rattle.layer_search.specs.Telling.{OverSpots, spots_held}
use Rattle.layer_search.specs.Running.{GoesOnSo}
use Rattle.layer_search.proofs.Turns.{left_of}
use Rattle.layer_search.proofs.searching.go_on.Given as goal

-- the turns so far
abbrev pub invariant-turns : goal.invariant-turns
invariant-turns g l =
    let S = g.S.Steps in
    let over : Index → Type 0 = OverSpots (S.stands l.fn.steps) (S.seen l.fn.steps) l.aim.layer (spots_held (held l.fn.frontier)) in
    record {
      goes : Goes S.desk S.stands S.comes_from over l.fn.steps l.steps;
      bits : length l.room.told.bits ≡ (S.desk l.fn.steps).params.bits;
      ready : IsReady (S.desk l.fn.steps).params.bits l.frontier;
      same_wanted : wanted l.frontier ≡ wanted l.fn.frontier;
      told : (base : Index) → over base → OverSpots (S.stands l.steps) (S.seen l.steps) l.aim.layer (spots_held (held l.frontier)) base;
      so_far : GoesOnSo over (S.desk l.fn.steps) (S.seen l.fn.steps) (S.seen l.steps) l.fn.trace.reads l.trace.reads
          (start_at l.aim.ops l.query [] l.aim.layer) (wanted l.fn.frontier) l.aim.most (held l.fn.frontier) (held l.frontier);
    }

abbrev pub decreases-turns : goal.decreases-turns
decreases-turns g l = left_of (held l.frontier)
