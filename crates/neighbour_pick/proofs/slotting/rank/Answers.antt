use Rattle.std.proofs.Common.{ℕ, List, map, ap, ◌∙◌, ◌++◌, ◌∷◌, [], length, arith}
use Rattle.neighbour_pick.specs.Order.{candidate_of}
use Rattle.neighbour_pick.specs.Standing.{rival_at}
use Rattle.neighbour_pick.proofs.Standings.{entrant_alone}
use Rattle.neighbour_pick.proofs.slotting.rank.Goals as goal

pub loop-k-init : goal.loop-k-init
loop-k-init c = record {
  ranked =
      ap (map (rival_at c.args.slots.now (candidate_of c.args.entrant.now))) c.push.ensures.items
      ∙ ap (λ (ks : List ℕ). map (rival_at c.args.slots.now (candidate_of c.args.entrant.now)) (ks ++ length c.args.slots.now ∷ [])) c.new-order.ensures
      ∙ entrant_alone c.args.slots.now (candidate_of c.args.entrant.now);
  room = omega (arith, c.push.ensures.len, ap length c.new-order.ensures, c.requires);
}
