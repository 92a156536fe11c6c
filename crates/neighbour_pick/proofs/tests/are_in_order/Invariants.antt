use Rattle.std.proofs.Common.{◌≡◌, ◌+◌, ◌<◌, ℕ, map, false, get_or}
use Rattle.neighbour_pick.specs.Order.{Candidate, candidate_of, is_nearer}
use Rattle.neighbour_pick.proofs.tests.are_in_order.Given as goal

abbrev pub invariant-loop-i : goal.invariant-loop-i
invariant-loop-i l =
    (k : ℕ) (d : Candidate) → k + 1 < l.i → is_nearer (get_or (map candidate_of l.found) (k + 1) d) (get_or (map candidate_of l.found) k d) ≡ false
