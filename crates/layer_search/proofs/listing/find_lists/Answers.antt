use Rattle.std.proofs.Common.{◌∙◌, [], ap, subst, arith}
use Rattle.vec_names.specs.declared.params.Params.{Params}
use Rattle.graph_search.specs.Insert.{Newcomer}
use Rattle.layer_search.specs.Telling.{OverSpots}
use Rattle.layer_search.specs.Listing.{FindsLists, lists_of, newcomer_in, newcomer_of}
use Rattle.layer_search.proofs.Looks.{ended_first, fails}
use Rattle.vec_steps.specs.Index.{OfNodes}
use Rattle.layer_search.proofs.Entering.{still_over}
use Rattle.vec_graph.specs.Knowing.{Knows}
use Rattle.layer_search.proofs.Linked.{m_range}
use Rattle.layer_search.proofs.LookedAt.{found_known, found_stand}
use Rattle.layer_search.proofs.SlotMembers.{members_so, slots_long}
use Rattle.layer_search.proofs.LayersFound.{ef_some}
use Rattle.layer_search.proofs.listing.find_lists.Goals as goal

pub returns-in_err-work-clause-err : goal.returns-in_err-work-clause-err
returns-in_err-work-clause-err g c =
    fails c.from_residual.result (λ e is. ended_first (g.S.Steps.seen c.args.steps.now) e (is ∙ c.in_err-work.ensures.memory)) c.from_residual.ensures.1

pub find_in-requires-clause-ef : goal.find_in-requires-clause-ef
find_in-requires-clause-ef g c =
    omega (arith, ef_some (g.S.Steps.desk c.args.steps.now).params c.requires.params c.requires.nodes, c.plan_for-plan.ensures.ef, ap (λ (p : Params). p.ef) c.params-params.ensures)

pub returns-clause-ok : goal.returns-clause-ok
returns-clause-ok g c =
    let d = g.S.Steps.desk c.args.steps.now in
    let bits = c.args.bits.now in
    subst (λ (n : Newcomer). FindsLists (OverSpots (g.S.Steps.stands c.args.steps.now) (g.S.Steps.seen c.args.steps.now) 0 []) d (g.S.Steps.seen c.args.steps.now)
    (g.S.Steps.seen c.find_in.new.steps) c.args.trace.now.reads c.find_in.new.trace.reads n c.in_ok-top.top (lists_of c.find_in.new.lists))
    (ap (λ (n : Newcomer). (let k : Newcomer = record n { bits = bits } in k)) c.plan_for-plan.ensures.plan
    ∙ ap (λ (p : Params). newcomer_in p bits c.args.level c.args.except) c.params-params.ensures) c.in_ok-top.ensures.ok

pub returns-clause-there : goal.returns-clause-there
returns-clause-there g c = λ base o.
    let now = c.find_in.new.steps in
    let st = c.in_ok-top.ensures.goes.still_stands base o in
    let bare : OverSpots (g.S.Steps.stands now) (g.S.Steps.seen now) 0 [] base = still_over 0 0 base o st in
    found_stand (newcomer_of c.plan_for-plan.result c.args.bits.now) c.in_ok-top.top (lists_of c.find_in.new.lists) c.in_ok-top.ensures.ok base
    (g.met.S.Steps.shaped now base st) (g.met.S.Steps.legal now base st) o bare.there

pub returns-clause-known : goal.returns-clause-known
returns-clause-known g c = λ graph o held.
    let now = c.find_in.new.steps in
    let st = c.in_ok-top.ensures.goes.still_stands (OfNodes graph) o in
    found_known (newcomer_of c.plan_for-plan.result c.args.bits.now) c.in_ok-top.top (lists_of c.find_in.new.lists) c.in_ok-top.ensures.ok graph
    (g.met.S.Steps.shaped now (OfNodes graph) st) (g.met.S.Steps.legal now (OfNodes graph) st) o held

pub returns-clause-members : goal.returns-clause-members
returns-clause-members g c = λ graph o held.
    let d = g.S.Steps.desk c.args.steps.now in
    let now = c.find_in.new.steps in
    let st = c.in_ok-top.ensures.goes.still_stands (OfNodes graph) o in
    let n = newcomer_of c.plan_for-plan.result c.args.bits.now in
    let known = found_known n c.in_ok-top.top (lists_of c.find_in.new.lists) c.in_ok-top.ensures.ok graph (g.met.S.Steps.shaped now (OfNodes graph) st)
    (g.met.S.Steps.legal now (OfNodes graph) st) o held in
    let found = returns-clause-ok g c in
    members_so (Knows graph (g.S.Steps.seen now) d.number) (newcomer_in d.params c.args.bits.now c.args.level c.args.except)
    (m_range d.params c.requires.params c.requires.nodes).0 found.reads c.in_ok-top.top (lists_of c.find_in.new.lists) found.found known

pub returns-clause-many : goal.returns-clause-many
returns-clause-many g c =
    let d = g.S.Steps.desk c.args.steps.now in
    let found = returns-clause-ok g c in
    slots_long (newcomer_in d.params c.args.bits.now c.args.level c.args.except) found.reads c.in_ok-top.top (lists_of c.find_in.new.lists) found.found
