use Rattle.std.proofs.Common.{◌∙◌, ◌++◌, ◌*◌, ◌-◌, [], List, Option, None, refl, sym, ap, subst}
use Rattle.std.specs.Prelude.{replicate}
use Rattle.vec_names.specs.declared.tid.Tid.{Tid}
use Rattle.vec_steps.specs.Desks.{Desk}
use Rattle.vec_steps.proofs.Following.{goes_then}
use Rattle.layer_search.specs.Waiting.{AreLong}
use Rattle.graph_search.specs.Insert.{no_neighbours}
use Rattle.layer_search.specs.Telling.{OverSpots}
use Rattle.layer_search.specs.Looking.{EndedBy}
use Rattle.layer_search.specs.Listing.{ArePicksLong, newcomer_of}
use Rattle.layer_search.proofs.Looks.{ended_memory, ended_then, fails}
use Rattle.layer_search.proofs.LayersFound.{down_over, lists_from, lists_none}
use Rattle.layer_search.proofs.listing.find_in.Goals as goal

pub returns-in_err-add_all_slots-clause-err : goal.returns-in_err-add_all_slots-clause-err
returns-in_err-add_all_slots-clause-err g c =
    fails c.from_residual-in_err-add_all_slots.result (λ e is. ended_memory e is c.in_ok-descent.ensures.ok.made) c.from_residual-in_err-add_all_slots.ensures.1

pub returns-in_default-clause-ok : goal.returns-in_default-clause-ok
returns-in_default-clause-ok g c =
    lists_none (newcomer_of c.args.plan c.args.query.now) c.in_ok-descent.descent.top c.in_ok-descent.descent.from c.add_all_slots.new.slots c.args.lists.now.picks
    c.args.lists.now.near c.in_ok-descent.ensures.ok c.in_default.is
    (c.in_ok-add_all_slots.ensures ∙ ap (λ (l : List (Option Tid)). l ++ no_neighbours c.args.plan.m c.args.plan.level) c.requires.no_lists) c.requires.no_picks
    c.requires.no_near

pub returns-in_err-add_layers_above-clause-err : goal.returns-in_err-add_layers_above-clause-err
returns-in_err-add_layers_above-clause-err g c =
    fails c.from_residual-in_err-add_layers_above.result (λ e is. ended_memory e is c.in_ok-descent.ensures.ok.made) c.from_residual-in_err-add_layers_above.ensures.1

pub returns-in_err-find_down-clause-goes : goal.returns-in_err-find_down-clause-goes
returns-in_err-find_down-clause-goes g c =
    let e = c.in_ok-descent.ensures in
    let now = c.descend_in.new.steps in
    goes_then g.met.S.Steps.comes_on
    (λ base o. down_over (g.S.Steps.stands now) (g.S.Steps.seen now) c.in_ok-descent.descent.top c.args.plan.level c.in-Some.top c.min-layer.result c.in_ok-descent.descent.from base
    c.in-Some.is c.min-layer.ensures (e.told base o)) e.goes c.in_err-find_down.ensures.goes

pub returns-in_err-find_down-clause-err : goal.returns-in_err-find_down-clause-err
returns-in_err-find_down-clause-err g c =
    let e = c.in_ok-descent.ensures in
    let now = c.descend_in.new.steps in
    let over = OverSpots (g.S.Steps.stands c.args.steps.now) (g.S.Steps.seen c.args.steps.now) 0 [] in
    fails c.from_residual-in_err-find_down.result
    (λ end is. subst (EndedBy over (g.S.Steps.desk c.args.steps.now) (g.S.Steps.seen c.args.steps.now) (g.S.Steps.seen c.find_down.new.steps)) (sym is)
    (ended_then e.goes.stays
    (λ base o. down_over (g.S.Steps.stands now) (g.S.Steps.seen now) c.in_ok-descent.descent.top c.args.plan.level c.in-Some.top c.min-layer.result c.in_ok-descent.descent.from base
    c.in-Some.is c.min-layer.ensures (e.told base o)) e.ok.made c.in_err-find_down.ensures.err)) c.from_residual-in_err-find_down.ensures.1

pub returns-clause-goes : goal.returns-clause-goes
returns-clause-goes g c =
    let e = c.in_ok-descent.ensures in
    let now = c.descend_in.new.steps in
    goes_then g.met.S.Steps.comes_on
    (λ base o. down_over (g.S.Steps.stands now) (g.S.Steps.seen now) c.in_ok-descent.descent.top c.args.plan.level c.in-Some.top c.min-layer.result c.in_ok-descent.descent.from base
    c.in-Some.is c.min-layer.ensures (e.told base o)) e.goes c.in_ok-find_down.ensures.goes

pub returns-clause-ok : goal.returns-clause-ok
returns-clause-ok g c =
    let e = c.in_ok-descent.ensures in
    let now = c.descend_in.new.steps in
    lists_from (newcomer_of c.args.plan c.args.query.now) c.in_ok-descent.descent.top c.in-Some.top c.min-layer.result c.in_ok-descent.descent.from e.goes.stays
    (λ base o. down_over (g.S.Steps.stands now) (g.S.Steps.seen now) c.in_ok-descent.descent.top c.args.plan.level c.in-Some.top c.min-layer.result c.in_ok-descent.descent.from base
    c.in-Some.is c.min-layer.ensures (e.told base o)) e.ok c.in-Some.is
    (c.in_ok-add_layers_above.ensures ∙ ap (λ (l : List (Option Tid)). l ++ replicate ((c.args.plan.level - c.in-Some.top) * c.args.plan.m) None) c.requires.no_lists)
    c.requires.no_picks refl c.min-layer.ensures c.in_ok-find_down.ensures.ok

pub returns-in_default-clause-picks_long : goal.returns-in_default-clause-picks_long
returns-in_default-clause-picks_long g c = subst (ArePicksLong (g.S.Steps.desk c.args.steps.now).params.bits) (sym c.requires.no_picks) tt

pub returns-in_default-clause-near_long : goal.returns-in_default-clause-near_long
returns-in_default-clause-near_long g c = subst (AreLong (g.S.Steps.desk c.args.steps.now).params.bits) (sym c.requires.no_near) tt

pub find_down-requires-clause-picks_long : goal.find_down-requires-clause-picks_long
find_down-requires-clause-picks_long g c = subst (ArePicksLong (g.S.Steps.desk c.descend_in.new.steps).params.bits) (sym c.requires.no_picks) tt

pub returns-clause-picks_long : goal.returns-clause-picks_long
returns-clause-picks_long g c =
    subst (λ (d : Desk). ArePicksLong d.params.bits c.find_down.new.lists.picks) c.in_ok-descent.ensures.goes.stays c.in_ok-find_down.ensures.picks_long

pub returns-clause-near_long : goal.returns-clause-near_long
returns-clause-near_long g c =
    subst (λ (d : Desk). AreLong d.params.bits c.find_down.new.lists.near) c.in_ok-descent.ensures.goes.stays c.in_ok-find_down.ensures.near_long
