use Rattle.std.proofs.Common.{◌∙◌, [], List, map, sym, subst}
use Rattle.neighbour_pick.specs.declared.found.Found.{Found}
use Rattle.graph_search.specs.Descent.{start_at}
use Rattle.search_sets.specs.Standing.{spot_of}
use Rattle.vec_steps.proofs.Following.{does_so_over}
use Rattle.layer_search.specs.Waiting.{AreApart, AreLong}
use Rattle.layer_search.specs.Telling.{OverSpots}
use Rattle.layer_search.specs.Listing.{newcomer_of}
use Rattle.layer_search.proofs.Looks.{ended_memory, fails}
use Rattle.layer_search.proofs.Told.{stand_later}
use Rattle.layer_search.proofs.Lowering.{over_slice}
use Rattle.layer_search.proofs.Chosen.{found_sorted}
use Rattle.layer_search.proofs.LayersFound.{near_apart, near_long, near_over, picks_after}
use Rattle.layer_search.proofs.listing.find_layer.Goals as goal

pub add_layer-requires-clause-rising : goal.add_layer-requires-clause-rising
add_layer-requires-clause-rising g c =
    let s = c.in_ok-found.ensures.ok in
    found_sorted (start_at c.args.plan.ops c.args.query.now c.as_slice.result.now c.args.plan.layer) c.args.plan.ef s.reads c.in_ok-found.found s.search

pub returns-in_err-add_layer-clause-err : goal.returns-in_err-add_layer-clause-err
returns-in_err-add_layer-clause-err g c =
    fails c.from_residual-in_err-add_layer.result
    (λ e is. ended_memory e (is ∙ c.in_err-add_layer.ensures.memory)
    (does_so_over (λ base o. over_slice (g.S.Steps.stands c.args.steps.now) (g.S.Steps.seen c.args.steps.now) c.args.plan.layer c.as_slice.result.now c.args.lists.now.near
    c.as_slice.ensures base o) c.in_ok-found.ensures.ok.made)) c.from_residual-in_err-add_layer.ensures.1

pub returns-clause-apart : goal.returns-clause-apart
returns-clause-apart g c =
    subst AreApart (sym c.in_ok-add_layer.ensures.ok.near_is)
    (near_apart (newcomer_of c.args.plan []) c.in_ok-found.found c.args.lists.now.near c.args.plan.layer c.in_ok-found.ensures.apart c.requires.apart)

pub returns-clause-long : goal.returns-clause-long
returns-clause-long g c =
    let n = (g.S.Steps.desk c.args.steps.now).params.bits in
    subst (AreLong n) (sym c.in_ok-add_layer.ensures.ok.near_is)
    (near_long (newcomer_of c.args.plan []) c.in_ok-found.found c.args.lists.now.near c.args.plan.layer n c.in_ok-found.ensures.long c.requires.long)

pub returns-clause-told : goal.returns-clause-told
returns-clause-told g c = λ base o.
    let layer = c.args.plan.layer in
    let near = c.args.lists.now.near in
    let now = c.search_in.new.steps in
    let after = c.in_ok-found.ensures.told base
    (over_slice (g.S.Steps.stands c.args.steps.now) (g.S.Steps.seen c.args.steps.now) layer c.as_slice.result.now near c.as_slice.ensures base o) in
    subst (λ (l : List Found). OverSpots (g.S.Steps.stands now) (g.S.Steps.seen now) layer (map spot_of l) base) (sym c.in_ok-add_layer.ensures.ok.near_is)
    (near_over (newcomer_of c.args.plan []) layer layer c.in_ok-found.found near base after
    (stand_later layer (map spot_of near) base (g.met.S.Steps.shaped now base after.stood) (g.met.S.Steps.legal now base after.stood)
    c.in_ok-found.ensures.ok.made.does.acts o.there))

pub returns-clause-picks_long : goal.returns-clause-picks_long
returns-clause-picks_long g c =
    picks_after (newcomer_of c.args.plan []) c.args.plan.layer (g.S.Steps.desk c.args.steps.now).params.bits c.in_ok-found.found c.args.lists.now c.add_layer.new.lists
    c.in_ok-add_layer.ensures.ok c.in_ok-found.ensures.long c.requires.picks_long
