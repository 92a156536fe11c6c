use Rattle.std.proofs.Common.{◌∙◌, ◌<◌, Some, length, arith}
use Rattle.std.specs.Prelude.{slice_get}
use Rattle.neighbour_pick.specs.declared.found.Found.{Found}
use Rattle.layer_search.proofs.Chosen.{took_more}
use Rattle.layer_search.proofs.choosing.add_all.Goals as goal

pub loop-place-preserved : goal.loop-place-preserved
loop-place-preserved c =
    let so = c.loop-place.invariant in
    let now = c.in_ok-add_one.ensures in
    let within : c.loop-place.place-index < length c.args.places.now = omega arith in
    record {
      slots = took_more (λ (e : Found). Some e.at) c.args.lists.now.lists (slice_get c.args.others.now) c.args.places.now c.loop-place.place-index
          c.loop-place.lists.lists c.add_one.new.lists.lists within so.slots now.slots;
      picks = took_more (λ (e : Found). (c.args.layer, e)) c.args.lists.now.picks (slice_get c.args.others.now) c.args.places.now c.loop-place.place-index
          c.loop-place.lists.picks c.add_one.new.lists.picks within so.picks now.picks;
      near = now.near ∙ so.near;
    }
