use Rattle.std.proofs.Common.{◌≡◌, ◌≤◌, length, map, min}
use Rattle.search_sets.specs.Standing.{spot_of}
use Rattle.vec_steps.specs.Index.{Index}
use Rattle.vec_steps.specs.Calls.{Goes}
use Rattle.layer_search.specs.Waiting.{AreApart, AreLong}
use Rattle.layer_search.specs.Telling.{OverSpots}
use Rattle.layer_search.proofs.Lowering.{LoweredSo}
use Rattle.layer_search.proofs.descending.lower.Given as goal

-- the layers so far
abbrev pub invariant-layers : goal.invariant-layers
invariant-layers g l =
    let S = g.S.Steps in
    let over : Index → Type 0 = OverSpots (S.stands l.fn.steps) (S.seen l.fn.steps) l.way.level (map spot_of l.fn.first) in
    record {
      goes : Goes S.desk S.stands S.comes_from over l.fn.steps l.steps;
      bits : length l.work.room.told.bits ≡ (S.desk l.fn.steps).params.bits;
      apart : AreApart l.from;
      long : AreLong (S.desk l.fn.steps).params.bits l.from;
      least : min l.way.to l.way.level ≤ l.layer;
      told : (base : Index) → over base → OverSpots (S.stands l.steps) (S.seen l.steps) l.layer (map spot_of l.from) base;
      so_far : LoweredSo over (S.desk l.fn.steps) (S.seen l.fn.steps) (S.seen l.steps) l.fn.trace.reads l.trace.reads l.way.ops l.query l.way.to l.way.level
          l.layer l.fn.first l.from;
    }

abbrev pub decreases-layers : goal.decreases-layers
decreases-layers g l = l.layer
