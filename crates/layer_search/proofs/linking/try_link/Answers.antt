use Rattle.std.proofs.Common.{◌∙◌, ◌∷◌, ◌<◌, ℕ, [], Option, Some, sym, ap, subst}
use Rattle.std.specs.Prelude.{IfSome}
use Rattle.vec_steps.specs.Desks.{Desk}
use Rattle.vec_steps.proofs.Following.{goes_then}
use Rattle.graph_search.specs.Insert.{most_in}
use Rattle.layer_search.specs.Linking.{OverLink, StoppedBy, target_of}
use Rattle.layer_search.proofs.Looks.{fails}
use Rattle.layer_search.proofs.Linked.{links_looks, over_made, stopped_looks, stopped_then}
use Rattle.layer_search.proofs.TriesMade.{try_asked, try_none}
use Rattle.layer_search.proofs.linking.try_link.Goals as goal

pub returns-in_err-slot-clause-err : goal.returns-in_err-slot-clause-err
returns-in_err-slot-clause-err g c =
    let s = c.args.steps.now in
    let over = OverLink (g.S.Steps.stands s) (g.S.Steps.desk s) (g.S.Steps.seen s) c.args.back.at c.args.back.layer c.args.element.now in
    fails c.from_residual.result
    (λ e is. subst (StoppedBy c.args.back.at over (g.S.Steps.desk s) (g.S.Steps.seen s) (g.S.Steps.seen c.choose_slot.new.steps)) (sym is)
    (stopped_looks c.args.back.at c.in_err-slot.ensures.err)) c.from_residual.ensures.1

pub returns-in_default-clause-ok : goal.returns-in_default-clause-ok
returns-in_default-clause-ok g c =
    try_none (target_of c.args.back c.args.room.now.entrant.bits) c.args.element.now c.args.back.layer c.args.back.m c.choose_slot.new.room.tids
    c.in_ok-slot.field-0 c.in_default.is c.in_ok-slot.ensures.ok

pub ask_link-requires-clause-m : goal.ask_link-requires-clause-m
ask_link-requires-clause-m g c = c.requires.m ∙ ap (λ (d : Desk). d.params.m) (sym c.in_ok-slot.ensures.goes.stays)

pub ask_link-requires-clause-slot : goal.ask_link-requires-clause-slot
ask_link-requires-clause-slot g c =
    let within : IfSome (Some c.in-Some.slot) (λ slot. slot < most_in c.args.back.m c.args.back.layer) =
    subst (λ (o : Option ℕ). IfSome o (λ slot. slot < most_in c.args.back.m c.args.back.layer)) c.in-Some.is c.in_ok-slot.ensures.ok.within in within

pub ask_link-requires-clause-told : goal.ask_link-requires-clause-told
ask_link-requires-clause-told g c = c.in_ok-slot.ensures.told ∙ ap (λ (d : Desk). d.params.bits) (sym c.in_ok-slot.ensures.goes.stays)

pub returns-in_err-tried-clause-goes : goal.returns-in_err-tried-clause-goes
returns-in_err-tried-clause-goes g c =
    let now = c.choose_slot.new.steps in
    let so = c.in_ok-slot.ensures in
    goes_then g.met.S.Steps.comes_on
    (λ base o. let st = so.goes.still_stands base o in
    over_made c.args.back.at ((c.args.back.layer, c.args.element.now) ∷ []) base so.goes.stays (links_looks c.args.back.at so.ok.made)
    (g.met.S.Steps.shaped now base st) (g.met.S.Steps.legal now base st) st o) so.goes c.in_err-tried.ensures.goes

pub returns-in_err-tried-clause-told : goal.returns-in_err-tried-clause-told
returns-in_err-tried-clause-told g c = c.in_err-tried.ensures.told ∙ ap (λ (d : Desk). d.params.bits) c.in_ok-slot.ensures.goes.stays

pub returns-in_err-tried-clause-entrant : goal.returns-in_err-tried-clause-entrant
returns-in_err-tried-clause-entrant g c = c.in_err-tried.ensures.entrant ∙ c.in_ok-slot.ensures.entrant

pub returns-in_err-tried-clause-err : goal.returns-in_err-tried-clause-err
returns-in_err-tried-clause-err g c =
    let s = c.args.steps.now in
    let now = c.choose_slot.new.steps in
    let so = c.in_ok-slot.ensures in
    let over = OverLink (g.S.Steps.stands s) (g.S.Steps.desk s) (g.S.Steps.seen s) c.args.back.at c.args.back.layer c.args.element.now in
    fails c.from_residual-in_err-tried.result
    (λ e is. subst (StoppedBy c.args.back.at over (g.S.Steps.desk s) (g.S.Steps.seen s) (g.S.Steps.seen c.ask_link.new.steps)) (sym is)
    (stopped_then so.goes.stays
    (λ base o. let st = so.goes.still_stands base o in
    over_made c.args.back.at ((c.args.back.layer, c.args.element.now) ∷ []) base so.goes.stays (links_looks c.args.back.at so.ok.made)
    (g.met.S.Steps.shaped now base st) (g.met.S.Steps.legal now base st) st o)
    (links_looks c.args.back.at so.ok.made) c.in_err-tried.ensures.err)) c.from_residual-in_err-tried.ensures.1

pub returns-clause-goes : goal.returns-clause-goes
returns-clause-goes g c =
    let now = c.choose_slot.new.steps in
    let so = c.in_ok-slot.ensures in
    goes_then g.met.S.Steps.comes_on
    (λ base o. let st = so.goes.still_stands base o in
    over_made c.args.back.at ((c.args.back.layer, c.args.element.now) ∷ []) base so.goes.stays (links_looks c.args.back.at so.ok.made)
    (g.met.S.Steps.shaped now base st) (g.met.S.Steps.legal now base st) st o) so.goes c.in_ok-tried.ensures.goes

pub returns-clause-told : goal.returns-clause-told
returns-clause-told g c = c.in_ok-tried.ensures.told ∙ ap (λ (d : Desk). d.params.bits) c.in_ok-slot.ensures.goes.stays

pub returns-clause-entrant : goal.returns-clause-entrant
returns-clause-entrant g c = c.in_ok-tried.ensures.entrant ∙ c.in_ok-slot.ensures.entrant

pub returns-clause-ok : goal.returns-clause-ok
returns-clause-ok g c =
    let now = c.choose_slot.new.steps in
    let so = c.in_ok-slot.ensures in
    try_asked (target_of c.args.back c.args.room.now.entrant.bits) c.args.element.now c.args.back.layer c.args.back.m c.in-Some.slot c.choose_slot.new.room.tids
    c.in_ok-slot.field-0 c.in_ok-tried.tried so.goes.stays
    (λ base o. let st = so.goes.still_stands base o in
    over_made c.args.back.at ((c.args.back.layer, c.args.element.now) ∷ []) base so.goes.stays (links_looks c.args.back.at so.ok.made)
    (g.met.S.Steps.shaped now base st) (g.met.S.Steps.legal now base st) st o) c.in-Some.is so.ok c.in_ok-tried.ensures.ok
