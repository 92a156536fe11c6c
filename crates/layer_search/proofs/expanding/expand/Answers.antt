use Rattle.std.proofs.Common.{[], List, ap, subst, sym, ◌∙◌}
use Rattle.vec_names.specs.declared.tid.Tid.{Tid}
use Rattle.graph_search.specs.Descent.{start_at}
use Rattle.graph_search.specs.ByHolding.{HoldTheSame, unnamed}
use Rattle.search_sets.specs.Standing.{held, with_names}
use Rattle.vec_steps.specs.Telling.{list_told}
use Rattle.layer_search.specs.Telling.{OverSpots, spots_held}
use Rattle.layer_search.specs.Looking.{EndedBy}
use Rattle.layer_search.proofs.Looks.{ended_first, ended_memory, ended_then, fails}
use Rattle.layer_search.proofs.Turns.{least_taken, list_made, nodes_over, turn_made, turn_steady, turn_told}
use Rattle.layer_search.proofs.expanding.expand.Goals as goal

pub returns-in_err-spot-clause-err : goal.returns-in_err-spot-clause-err
returns-in_err-spot-clause-err g c = fails c.from_residual.result (λ e is. ended_first (g.S.Steps.seen c.args.steps.now) e is) c.from_residual.ensures.1

pub returns-in_err-name-clause-err : goal.returns-in_err-name-clause-err
returns-in_err-name-clause-err g c =
    let s = start_at c.args.aim.ops c.args.query.now [] c.args.aim.layer in
    let was = held c.args.frontier.now in
    let left = held c.take_least.new.self in
    let least = least_taken c.in_ok-spot.field-0 c.in-Some.spot was left c.in-Some.is c.in_ok-spot.ensures.least in
    let list = list_told c.look_at_list.new.told.word c.look_at_list.new.told in
    fails c.from_residual-in_err-name.result
    (λ e is. ended_memory e is
    (list_made g.S.Steps.seen s c.args.steps.now c.look_at_list.new.steps c.args.trace.now.reads c.look_at_list.new.trace.reads was left c.in-Some.spot list least
    c.in_ok-look_at_list.ensures.goes c.in_ok-look_at_list.ensures.ok)) c.from_residual-in_err-name.ensures.1

pub returns-in_err-look_at_all-clause-err : goal.returns-in_err-look_at_all-clause-err
returns-in_err-look_at_all-clause-err g c =
    let s = start_at c.args.aim.ops c.args.query.now [] c.args.aim.layer in
    let was = held c.args.frontier.now in
    let left = held c.take_least.new.self in
    let least = least_taken c.in_ok-spot.field-0 c.in-Some.spot was left c.in-Some.is c.in_ok-spot.ensures.least in
    let list = list_told c.look_at_list.new.told.word c.look_at_list.new.told in
    let over = OverSpots (g.S.Steps.stands c.args.steps.now) (g.S.Steps.seen c.args.steps.now) c.args.aim.layer (spots_held was) in
    fails c.from_residual-in_err-look_at_all.result
    (λ e is. subst (EndedBy over (g.S.Steps.desk c.args.steps.now) (g.S.Steps.seen c.args.steps.now) (g.S.Steps.seen c.look_at_all.new.steps)) (sym is)
    (ended_then c.in_ok-look_at_list.ensures.goes.stays
    (nodes_over g.S.Steps.seen s c.args.steps.now c.look_at_list.new.steps c.args.trace.now.reads c.look_at_list.new.trace.reads was left c.in-Some.spot list least
    c.in_ok-look_at_list.ensures.goes c.in_ok-look_at_list.ensures.ok)
    (list_made g.S.Steps.seen s c.args.steps.now c.look_at_list.new.steps c.args.trace.now.reads c.look_at_list.new.trace.reads was left c.in-Some.spot list least
    c.in_ok-look_at_list.ensures.goes c.in_ok-look_at_list.ensures.ok)
    c.in_err-look_at_all.ensures.err)) c.from_residual-in_err-look_at_all.ensures.1

pub returns-clause-ready : goal.returns-clause-ready
returns-clause-ready g c =
    let s = start_at c.args.aim.ops c.args.query.now [] c.args.aim.layer in
    let was = held c.args.frontier.now in
    let left = held c.take_least.new.self in
    let least = least_taken c.in_ok-spot.field-0 c.in-Some.spot was left c.in-Some.is c.in_ok-spot.ensures.least in
    let list = list_told c.look_at_list.new.told.word c.look_at_list.new.told in
    let named = subst (λ (l : List Tid). HoldTheSame (held c.name.new.self) (with_names l left)) c.slots_told.ensures c.in_ok-name.ensures.named in
    let fresh = c.in_ok-name.ensures.fresh ∙ ap (unnamed left.is_named) c.slots_told.ensures in
    record {
      whole = c.in_ok-look_at_all.ensures.whole;
      steady = turn_steady g.S.Steps.seen s c.args.steps.now c.look_at_list.new.steps c.args.trace.now.reads c.look_at_list.new.trace.reads was left c.in-Some.spot list least
          c.in_ok-look_at_list.ensures.goes c.in_ok-look_at_list.ensures.ok c.look_at_all.new.steps c.look_at_all.new.trace.reads
          (held c.name.new.self) (held c.look_at_all.new.frontier) c.name.new.fresh named fresh c.in_ok-look_at_all.ensures.ok c.requires.ready.steady;
    }

pub returns-clause-told : goal.returns-clause-told
returns-clause-told g c =
    let s = start_at c.args.aim.ops c.args.query.now [] c.args.aim.layer in
    let was = held c.args.frontier.now in
    let left = held c.take_least.new.self in
    let least = least_taken c.in_ok-spot.field-0 c.in-Some.spot was left c.in-Some.is c.in_ok-spot.ensures.least in
    let list = list_told c.look_at_list.new.told.word c.look_at_list.new.told in
    let named = subst (λ (l : List Tid). HoldTheSame (held c.name.new.self) (with_names l left)) c.slots_told.ensures c.in_ok-name.ensures.named in
    let fresh = c.in_ok-name.ensures.fresh ∙ ap (unnamed left.is_named) c.slots_told.ensures in
    λ base o.
    let now = c.look_at_all.new.steps in
    let stood = c.in_ok-look_at_all.ensures.goes.still_stands base
    (nodes_over g.S.Steps.seen s c.args.steps.now c.look_at_list.new.steps c.args.trace.now.reads c.look_at_list.new.trace.reads was left c.in-Some.spot list least
    c.in_ok-look_at_list.ensures.goes c.in_ok-look_at_list.ensures.ok base o) in
    turn_told g.S.Steps.seen s c.args.steps.now c.look_at_list.new.steps c.args.trace.now.reads c.look_at_list.new.trace.reads was left c.in-Some.spot list least
    c.in_ok-look_at_list.ensures.goes c.in_ok-look_at_list.ensures.ok c.look_at_all.new.steps c.look_at_all.new.trace.reads
    (held c.name.new.self) (held c.look_at_all.new.frontier) c.name.new.fresh named fresh c.in_ok-look_at_all.ensures.ok c.requires.ready.steady
    base o stood (g.met.S.Steps.shaped now base stood) (g.met.S.Steps.legal now base stood)

pub returns-clause-ok : goal.returns-clause-ok
returns-clause-ok g c =
    let s = start_at c.args.aim.ops c.args.query.now [] c.args.aim.layer in
    let was = held c.args.frontier.now in
    let left = held c.take_least.new.self in
    let least = least_taken c.in_ok-spot.field-0 c.in-Some.spot was left c.in-Some.is c.in_ok-spot.ensures.least in
    let list = list_told c.look_at_list.new.told.word c.look_at_list.new.told in
    let named = subst (λ (l : List Tid). HoldTheSame (held c.name.new.self) (with_names l left)) c.slots_told.ensures c.in_ok-name.ensures.named in
    let fresh = c.in_ok-name.ensures.fresh ∙ ap (unnamed left.is_named) c.slots_told.ensures in
    turn_made g.S.Steps.seen s c.args.steps.now c.look_at_list.new.steps c.args.trace.now.reads c.look_at_list.new.trace.reads was left c.in-Some.spot list least
    c.in_ok-look_at_list.ensures.goes c.in_ok-look_at_list.ensures.ok c.look_at_all.new.steps c.look_at_all.new.trace.reads
    (held c.name.new.self) (held c.look_at_all.new.frontier) c.name.new.fresh named fresh c.in_ok-look_at_all.ensures.ok c.requires.ready.steady
