use Rattle.std.proofs.Common.{map, ◌∙◌}
use Rattle.neighbour_pick.specs.Order.{candidate_of}
use Rattle.neighbour_pick.specs.Standing.{rival_at}
use Rattle.neighbour_pick.proofs.Standings.{last_is_out}
use Rattle.neighbour_pick.proofs.slotting.find_left_out.Goals as goal

pub returns-in-None : goal.returns-in-None
returns-in-None c =
    last_is_out c.args.ops (rival_at c.args.slots.now (candidate_of c.args.entrant.now)) c.args.order.now
    (map (rival_at c.args.slots.now (candidate_of c.args.entrant.now)) c.loop-k.far.items) c.loop-k.k-index c.loop-k.near c.copied.result
    c.loop-k-test.false c.in-None.is c.loop-k.invariant.near (c.copied.ensures ∙ c.last.ensures.value)
