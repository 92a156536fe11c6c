use Rattle.std.proofs.Common.{◌≡◌, drop}
use Rattle.neighbour_pick.specs.Order.{candidate_of}
use Rattle.neighbour_pick.specs.Selection.{is_far}
use Rattle.neighbour_pick.specs.Sifting.{candidates_at}
use Rattle.neighbour_pick.proofs.picking.is_far_from.Given as goal

abbrev pub invariant-loop-place : goal.invariant-loop-place
invariant-loop-place l =
    is_far l.ops (candidates_at l.found (drop l.place-index l.chosen)) (candidate_of l.one) ≡ is_far l.ops (candidates_at l.found l.chosen) (candidate_of l.one)
