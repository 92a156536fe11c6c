use Rattle.std.proofs.Common.{◌≡◌, map, drop}
use Rattle.neighbour_pick.specs.Order.{candidate_of}
use Rattle.neighbour_pick.specs.Selection.{is_far}
use Rattle.neighbour_pick.specs.Standing.{rival_at}
use Rattle.neighbour_pick.proofs.slotting.is_far_rival.Given as goal

abbrev pub invariant-loop-other : goal.invariant-loop-other
invariant-loop-other l =
    let rival = rival_at l.slots (candidate_of l.entrant) in
    is_far l.ops (map (λ r. r.is) (map rival (drop l.other-index l.others))) (rival l.k).is ≡ is_far l.ops (map (λ r. r.is) (map rival l.others)) (rival l.k).is
