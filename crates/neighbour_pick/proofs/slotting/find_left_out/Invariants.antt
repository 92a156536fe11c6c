use Rattle.std.proofs.Common.{◌≡◌, ◌≤◌, [], map, drop, None}
use Rattle.std.specs.Option.{option_map}
use Rattle.arrayvec.specs.ArrayVec.{array_vec_len}
use Rattle.neighbour_pick.specs.Order.{candidate_of}
use Rattle.neighbour_pick.specs.Standing.{rival_at, last_near}
use Rattle.neighbour_pick.proofs.slotting.find_left_out.Given as goal

abbrev pub invariant-loop-k : goal.invariant-loop-k
invariant-loop-k l =
    let rival = rival_at l.slots (candidate_of l.entrant) in
    record {
      near : last_near l.ops (map rival l.far.items) (map rival (drop l.k-index l.order)) (option_map rival l.near) ≡ last_near l.ops [] (map rival l.order) None;
      room : array_vec_len l.far ≤ l.k-index;
    }
