use Rattle.std.proofs.Common.{ℕ, ◌+◌, List, sym, subst}
use Rattle.neighbour_pick.specs.Sifting.{IsSifted}
use Rattle.neighbour_pick.proofs.Sifted.{sifted_far, sifted_near}
use Rattle.neighbour_pick.proofs.picking.sift_one.Goals as goal

pub returns-in_ok-push-clause-after : goal.returns-in_ok-push-clause-after
returns-in_ok-push-clause-after c =
    subst (λ (ks : List ℕ). IsSifted c.args.ops c.args.found.now (c.args.place + 1) ks c.args.aside.now.items) (sym c.in_ok-push.ensures.items)
    (sifted_far c.args.ops c.args.found.now c.args.place c.args.chosen.now.items c.args.aside.now.items c.index-found-place.result c.requires.within c.index-found-place.is c.requires.before cc)

pub returns-in_ok-push-2-clause-after : goal.returns-in_ok-push-2-clause-after
returns-in_ok-push-2-clause-after c =
    subst (λ (ks : List ℕ). IsSifted c.args.ops c.args.found.now (c.args.place + 1) c.args.chosen.now.items ks) (sym c.in_ok-push-2.ensures.items)
    (sifted_near c.args.ops c.args.found.now c.args.place c.args.chosen.now.items c.args.aside.now.items c.index-found-place.result c.requires.within c.index-found-place.is c.requires.before cc)
