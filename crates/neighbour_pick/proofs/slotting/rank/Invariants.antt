use Rattle.std.proofs.Common.{◌≡◌, ◌+◌, ◌≤◌, map}
use Rattle.arrayvec.specs.ArrayVec.{array_vec_len}
use Rattle.neighbour_pick.specs.Order.{candidate_of}
use Rattle.neighbour_pick.specs.Standing.{rival_at, rivals_from}
use Rattle.neighbour_pick.proofs.slotting.rank.Given as goal

abbrev pub invariant-loop-k : goal.invariant-loop-k
invariant-loop-k l = record {
  ranked : map (rival_at l.slots (candidate_of l.entrant)) l.order.items ≡ rivals_from l.slots (candidate_of l.entrant) l.k;
  room : array_vec_len l.order + l.k ≤ 201;
}
