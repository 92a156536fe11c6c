use Rattle.std.proofs.Common.{◌≡◌, ◌++◌, map, take, drop}
use Rattle.list_values.specs.Ranking.{placed}
use Rattle.neighbour_pick.specs.Order.{candidate_of}
use Rattle.neighbour_pick.specs.Standing.{rival_at, is_before}
use Rattle.neighbour_pick.proofs.slotting.place_in.Given as goal

abbrev pub invariant-loop-i : goal.invariant-loop-i
invariant-loop-i l =
    let rival = rival_at l.slots (candidate_of l.entrant) in
    map rival (take l.i l.order) ++ placed is_before (rival l.k) (map rival (drop l.i l.order)) ≡ placed is_before (rival l.k) (map rival l.order)
