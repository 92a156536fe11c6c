use Rattle.std.proofs.Common.{◌∙◌, ◌++◌, ◌∷◌, [], Some, ap}
use Rattle.std.specs.Prelude.{slice_get}
use Rattle.neighbour_pick.specs.declared.found.Found.{Found}
use Rattle.layer_search.proofs.Chosen.{took_none, took_one}
use Rattle.layer_search.proofs.choosing.add_one.Goals as goal

pub returns-in_default-clause-slots : goal.returns-in_default-clause-slots
returns-in_default-clause-slots c =
    took_none (λ (e : Found). Some e.at) c.args.lists.now.lists (slice_get c.args.others.now c.args.place) c.in_default.ensures

pub returns-in_default-clause-picks : goal.returns-in_default-clause-picks
returns-in_default-clause-picks c =
    took_none (λ (e : Found). (c.args.layer, e)) c.args.lists.now.picks (slice_get c.args.others.now c.args.place) c.in_default.ensures

pub returns-clause-slots : goal.returns-clause-slots
returns-clause-slots c =
    took_one (λ (e : Found). Some e.at) c.args.lists.now.lists (slice_get c.args.others.now c.args.place) c.in-Some.element.now c.push.new.self
    c.in-Some.ensures c.in_ok-push.ensures.ok

pub returns-clause-picks : goal.returns-clause-picks
returns-clause-picks c =
    took_one (λ (e : Found). (c.args.layer, e)) c.args.lists.now.picks (slice_get c.args.others.now c.args.place) c.in-Some.element.now c.push-2.new.self
    c.in-Some.ensures (c.in_ok-push-2.ensures.ok ∙ ap (λ (e : Found). c.args.lists.now.picks ++ (c.args.layer, e) ∷ []) c.in_ok-copy.ensures)
