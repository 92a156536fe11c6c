use Rattle.std.proofs.Common.{◌≡◌, ℕ, List, map, not, is_none, ap, subst, ◌∙◌}
use Rattle.std.specs.List.{insert}
use Rattle.list_values.specs.Ranking.{placed}
use Rattle.neighbour_pick.specs.declared.found.SlotSeen.{SlotSeen}
use Rattle.neighbour_pick.specs.Order.{candidate_of}
use Rattle.neighbour_pick.specs.Slots.{Rival}
use Rattle.neighbour_pick.specs.Standing.{rival_at, is_before}
use Rattle.neighbour_pick.proofs.Standings.{member_placed}
use Rattle.neighbour_pick.proofs.slotting.rank_one.Goals as goal

pub returns-clause-after : goal.returns-clause-after
returns-clause-after c =
    let rival : ℕ → Rival = rival_at c.args.slots.now (candidate_of c.args.entrant.now) in
    ap (map rival) c.insert.ensures.items
    ∙ subst (λ (ks : List ℕ). map rival (insert ks c.place_in-place.result c.args.k) ≡ placed is_before (rival c.args.k) (map rival ks)) c.deref.ensures.0 c.place_in-place.ensures.placed
    ∙ ap (placed is_before (rival c.args.k)) c.requires.before
    ∙ member_placed c.args.slots.now (candidate_of c.args.entrant.now) c.args.k c.index-slots-k.result c.requires.within c.index-slots-k.is
    (ap (λ (s : SlotSeen). is_none s.at) c.index-slots-k.is ∙ ap not c.if-is_none.ensures)
