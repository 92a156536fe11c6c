use Rattle.std.proofs.Common.{◌≤◌, vec_len}
use Rattle.neighbour_pick.specs.Sifting.{IsSifted}
use Rattle.neighbour_pick.proofs.picking.sift.Given as goal

abbrev pub invariant-loop-place : goal.invariant-loop-place
invariant-loop-place l = record { sifted : IsSifted l.ops l.found l.place l.chosen.items l.aside.items; few : vec_len l.chosen ≤ l.count }
