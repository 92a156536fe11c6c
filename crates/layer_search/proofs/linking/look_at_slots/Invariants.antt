use Rattle.std.proofs.Common.{◌≡◌, [], length, take}
use Rattle.vec_steps.specs.Calls.{Goes}
use Rattle.layer_search.specs.Telling.{OverSpots}
use Rattle.layer_search.specs.Linking.{LooksSlots}
use Rattle.layer_search.proofs.linking.look_at_slots.Given as goal

-- the slots so far
abbrev pub invariant-loop-k : goal.invariant-loop-k
invariant-loop-k g l =
    let S = g.S.Steps in
    record {
      goes : Goes S.desk S.stands S.comes_from (OverSpots (S.stands l.fn.steps) (S.seen l.fn.steps) l.back.layer []) l.fn.steps l.steps;
      told : length l.room.told.bits ≡ (S.desk l.fn.steps).params.bits;
      tids : l.room.tids ≡ l.fn.room.tids;
      entrant : l.room.entrant ≡ l.fn.room.entrant;
      looked : LooksSlots (OverSpots (S.stands l.fn.steps) (S.seen l.fn.steps) l.back.layer []) (S.desk l.fn.steps) (S.seen l.fn.steps) (S.seen l.steps)
          l.fn.trace.reads l.trace.reads l.back.ops l.owner l.back.layer (take l.k l.fn.room.tids) l.room.seen;
    }
