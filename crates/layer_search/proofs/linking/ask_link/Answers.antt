use Rattle.std.proofs.Common.{◌∙◌, List, Option, slice_get, sym, ap, subst}
use Rattle.vec_names.specs.declared.tid.Tid.{Tid}
use Rattle.graph_search.specs.Insert.{held_in}
use Rattle.vec_steps.proofs.Following.{goes_over}
use Rattle.layer_search.specs.Linking.{AsksLink, OverLink}
use Rattle.layer_search.proofs.Looks.{fails}
use Rattle.layer_search.proofs.Linked.{link_asks}
use Rattle.layer_search.proofs.SlotChosen.{link_failed, link_stepped}
use Rattle.layer_search.proofs.linking.ask_link.Goals as goal

pub returns-in_err-step-clause-goes : goal.returns-in_err-step-clause-goes
returns-in_err-step-clause-goes g c =
    let s = c.args.steps.now in
    goes_over (link_asks c.args.back.at c.args.back.layer c.args.slot c.args.back.m c.args.element.now c.held_at.result c.requires.m c.requires.slot
    (g.met.S.Steps.index s)) c.in_err-step.ensures.goes

pub returns-in_err-step-clause-err : goal.returns-in_err-step-clause-err
returns-in_err-step-clause-err g c =
    let s = c.args.steps.now in
    fails c.from_residual.result
    (λ e is. link_failed c.args.back.at c.args.element.now c.args.back.layer c.args.slot c.args.room.now.tids c.held_at.result
    (c.held_at.ensures ∙ ap (λ (l : List (Option Tid)). held_in (slice_get l c.args.slot)) c.as_slice.ensures)
    (link_asks c.args.back.at c.args.back.layer c.args.slot c.args.back.m c.args.element.now c.held_at.result c.requires.m c.requires.slot (g.met.S.Steps.index s))
    c.in_err-step.field-0.0 e is c.in_err-step.ensures.err) c.from_residual.ensures.1

pub returns-clause-goes : goal.returns-clause-goes
returns-clause-goes g c =
    let s = c.args.steps.now in
    goes_over (link_asks c.args.back.at c.args.back.layer c.args.slot c.args.back.m c.args.element.now c.held_at.result c.requires.m c.requires.slot
    (g.met.S.Steps.index s)) c.in_ok-step.ensures.goes

pub returns-clause-ok : goal.returns-clause-ok
returns-clause-ok g c =
    let s = c.args.steps.now in
    let over = OverLink (g.S.Steps.stands s) (g.S.Steps.desk s) (g.S.Steps.seen s) c.args.back.at c.args.back.layer c.args.element.now in
    subst (AsksLink over (g.S.Steps.desk s) (g.S.Steps.seen s) (g.S.Steps.seen c.step.new.self) c.args.back.at c.args.element.now c.args.back.layer c.args.slot
    c.args.room.now.tids) (sym c.tried_of.ensures)
    (link_stepped c.args.back.at c.args.element.now c.args.back.layer c.args.slot c.args.room.now.tids c.held_at.result
    (c.held_at.ensures ∙ ap (λ (l : List (Option Tid)). held_in (slice_get l c.args.slot)) c.as_slice.ensures)
    (link_asks c.args.back.at c.args.back.layer c.args.slot c.args.back.m c.args.element.now c.held_at.result c.requires.m c.requires.slot (g.met.S.Steps.index s))
    c.step.new.ask c.step.new.told c.in_ok-step.ensures.ok)
