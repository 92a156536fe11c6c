use Rattle.std.proofs.Common.{◌≡◌, ◌∙◌, List, Bool, ap}
use Rattle.vec_names.specs.declared.tid.Tid.{Tid}
use Rattle.bit_dist.specs.declared.dist.Dist.{Dist}
use Rattle.neighbour_pick.specs.declared.found.Found.{Found}
use Rattle.neighbour_pick.specs.Order.{Candidate}
use Rattle.layer_search.proofs.linking.link_one.Goals as goal

same_candidate : (at to : Tid) (d e : Dist) (bits : List Bool) → at ≡ to → d ≡ e
    → (let c : Candidate = record { at = at; dist = d; bits = bits } in c) ≡ (record { at = to; dist = e; bits = bits })
same_candidate at to d e bits is are =
    ap (λ (x : Tid). (let c : Candidate = record { at = x; dist = d; bits = bits } in c)) is
    ∙ ap (λ (x : Dist). (let c : Candidate = record { at = to; dist = x; bits = bits } in c)) are

pub try_thrice-requires-clause-entrant : goal.try_thrice-requires-clause-entrant
try_thrice-requires-clause-entrant g c =
    same_candidate c.args.room.now.entrant.at c.args.back.at c.distance-room.result _ c.args.room.now.entrant.bits c.requires.at c.distance-room.ensures

pub returns-in_err-made-clause-at : goal.returns-in_err-made-clause-at
returns-in_err-made-clause-at g c = ap (λ (e : Found). e.at) c.in_err-made.ensures.entrant

pub returns-in_err-made-clause-bits : goal.returns-in_err-made-clause-bits
returns-in_err-made-clause-bits g c = ap (λ (e : Found). e.bits) c.in_err-made.ensures.entrant

pub returns-clause-at : goal.returns-clause-at
returns-clause-at g c = ap (λ (e : Found). e.at) c.in_ok-made.ensures.entrant

pub returns-clause-bits : goal.returns-clause-bits
returns-clause-bits g c = ap (λ (e : Found). e.bits) c.in_ok-made.ensures.entrant
