use Rattle.std.proofs.Common.{◌≡◌, ◌≤◌, length, map}
use Rattle.search_sets.specs.Standing.{spot_of}
use Rattle.vec_steps.specs.Index.{Index}
use Rattle.vec_steps.specs.Calls.{Goes}
use Rattle.layer_search.specs.Waiting.{AreApart, AreLong}
use Rattle.layer_search.specs.Telling.{OverSpots}
use Rattle.layer_search.specs.Listing.{ArePicksLong, newcomer_of}
use Rattle.layer_search.proofs.LayersFound.{ListedSo}
use Rattle.layer_search.proofs.listing.find_down.Given as goal

-- the layers so far
abbrev pub invariant-layers : goal.invariant-layers
invariant-layers g l =
    let S = g.S.Steps in
    let over : Index → Type 0 = OverSpots (S.stands l.fn.steps) (S.seen l.fn.steps) l.plan.layer (map spot_of l.fn.lists.near) in
    record {
      goes : Goes S.desk S.stands S.comes_from over l.fn.steps l.steps;
      bits : length l.work.room.told.bits ≡ (S.desk l.fn.steps).params.bits;
      apart : AreApart l.lists.near;
      long : AreLong (S.desk l.fn.steps).params.bits l.lists.near;
      picks_long : ArePicksLong (S.desk l.fn.steps).params.bits l.lists.picks;
      low : l.layer ≤ l.plan.layer;
      told : (base : Index) → over base → OverSpots (S.stands l.steps) (S.seen l.steps) l.layer (map spot_of l.lists.near) base;
      so_far : ListedSo over (S.desk l.fn.steps) (S.seen l.fn.steps) (S.seen l.steps) l.fn.trace.reads l.trace.reads (newcomer_of l.plan l.query)
          l.plan.layer l.layer l.fn.lists l.lists;
    }

abbrev pub decreases-layers : goal.decreases-layers
decreases-layers g l = l.layer
