use Rattle.std.proofs.Common.{◌≡◌, [], length, take}
use Rattle.graph_search.specs.Descent.{start_at}
use Rattle.search_sets.specs.Standing.{IsWhole, held, wanted}
use Rattle.vec_steps.specs.Calls.{Goes}
use Rattle.layer_search.specs.Telling.{OverSpots}
use Rattle.layer_search.specs.Running.{LooksAll}
use Rattle.layer_search.proofs.expanding.look_at_all.Given as goal

-- what was looked at so far
abbrev pub invariant-loop-k : goal.invariant-loop-k
invariant-loop-k g l =
    let S = g.S.Steps in
    record {
      goes : Goes S.desk S.stands S.comes_from (OverSpots (S.stands l.fn.steps) (S.seen l.fn.steps) l.aim.layer []) l.fn.steps l.steps;
      bits : length l.room.told.bits ≡ (S.desk l.fn.steps).params.bits;
      fresh : l.room.fresh ≡ l.fn.room.fresh;
      whole : IsWhole l.frontier;
      wanted : wanted l.frontier ≡ wanted l.fn.frontier;
      looked : LooksAll (OverSpots (S.stands l.fn.steps) (S.seen l.fn.steps) l.aim.layer []) (S.desk l.fn.steps) (S.seen l.fn.steps) (S.seen l.steps)
          l.fn.trace.reads l.trace.reads (start_at l.aim.ops l.query [] l.aim.layer) (S.desk l.fn.steps).params.bits (held l.fn.frontier) (held l.frontier)
          (take l.k l.fn.room.fresh);
    }
