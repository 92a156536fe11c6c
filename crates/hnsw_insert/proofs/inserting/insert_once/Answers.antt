use Rattle.std.proofs.Common.{◌≡◌, Option, Some, None, subst}
use Rattle.vec_history.specs.declared.gate.Hold.TheVariants.{Shared, Alone}
use Rattle.vec_steps.specs.Index.{Index}
use Rattle.vec_steps.specs.Desks.{Desk}
use Rattle.layer_search.specs.Listing.{newcomer_in}
use Rattle.hnsw_insert.specs.declared.landing.Landing.{Landing}
use Rattle.hnsw_insert.specs.Over.{OverNodes}
use Rattle.hnsw_insert.specs.Parts.{GoesThrough, RunsHeld}
use Rattle.hnsw_insert.proofs.Lasts.{nodes_on}
use Rattle.hnsw_insert.proofs.Stopped.{handed, on_err, stops_as}
use Rattle.hnsw_insert.proofs.Gates.{full_beside, gives_over, once_alone, once_beside, stops_alone}
use Rattle.hnsw_insert.proofs.inserting.insert_once.Goals as goal

pub returns-in_err-landing-clause-err : goal.returns-in_err-landing-clause-err
returns-in_err-landing-clause-err g c =
    handed _ c.from_residual.result (stops_as (λ base o. o) (λ course all. all) (full_beside c.args.coming.level) c.in_err-landing.ensures.err) c.from_residual.ensures.1

pub returns-in-Some-clause-ok : goal.returns-in-Some-clause-ok
returns-in-Some-clause-ok g c =
    let s0 = c.args.steps.now in
    let d0 = g.S.Steps.desk s0 in
    let s1 = c.insert_held.new.steps in
    let h = c.in_ok-landing.ensures in
    let n = newcomer_in d0.params c.args.bits.now c.args.coming.level None in
    let first = λ (o : Option Landing) (is : c.in_ok-landing.field-0 ≡ o). subst (RunsHeld (OverNodes (g.S.Steps.stands s0)) d0 (g.S.Steps.seen s0) (g.S.Steps.seen s1)
    c.args.trace.now.reads c.insert_held.new.trace.reads Shared n c.args.coming.id) is h.ok in
    once_beside n c.args.coming.id c.in-Some.landing (first (Some c.in-Some.landing) c.in-Some.is)

pub returns-in_err-landing-2-clause-err : goal.returns-in_err-landing-2-clause-err
returns-in_err-landing-2-clause-err g c =
    let s0 = c.args.steps.now in
    let d0 = g.S.Steps.desk s0 in
    let s1 = c.insert_held.new.steps in
    let h = c.in_ok-landing.ensures in
    let n = newcomer_in d0.params c.args.bits.now c.args.coming.level None in
    let first = λ (o : Option Landing) (is : c.in_ok-landing.field-0 ≡ o). subst (RunsHeld (OverNodes (g.S.Steps.stands s0)) d0 (g.S.Steps.seen s0) (g.S.Steps.seen s1)
    c.args.trace.now.reads c.insert_held.new.trace.reads Shared n c.args.coming.id) is h.ok in
    let s2 = c.insert_held-2.new.steps in
    let turned = first None c.in_default.is in
    let on = λ (base : Index) (o : OverNodes (g.S.Steps.stands s0) base). nodes_on base (h.goes.still_stands base o) o in
    handed _ c.from_residual-in_err-landing-2.result (stops_alone h.goes.stays on turned c.in_err-landing-2.ensures.err) c.from_residual-in_err-landing-2.ensures.1

pub returns-in_err-landing-2-clause-given : goal.returns-in_err-landing-2-clause-given
returns-in_err-landing-2-clause-given g c =
    let s0 = c.args.steps.now in
    let d0 = g.S.Steps.desk s0 in
    let s1 = c.insert_held.new.steps in
    let h = c.in_ok-landing.ensures in
    let n = newcomer_in d0.params c.args.bits.now c.args.coming.level None in
    let first = λ (o : Option Landing) (is : c.in_ok-landing.field-0 ≡ o). subst (RunsHeld (OverNodes (g.S.Steps.stands s0)) d0 (g.S.Steps.seen s0) (g.S.Steps.seen s1)
    c.args.trace.now.reads c.insert_held.new.trace.reads Shared n c.args.coming.id) is h.ok in
    let s2 = c.insert_held-2.new.steps in
    let turned = first None c.in_default.is in
    let on = λ (base : Index) (o : OverNodes (g.S.Steps.stands s0) base). nodes_on base (h.goes.still_stands base o) o in
    on_err c.from_residual-in_err-landing-2.result (gives_over h.goes.stays on c.in_err-landing-2.ensures.given)

pub returns-in-Some-2-clause-ok : goal.returns-in-Some-2-clause-ok
returns-in-Some-2-clause-ok g c =
    let s0 = c.args.steps.now in
    let d0 = g.S.Steps.desk s0 in
    let s1 = c.insert_held.new.steps in
    let h = c.in_ok-landing.ensures in
    let n = newcomer_in d0.params c.args.bits.now c.args.coming.level None in
    let first = λ (o : Option Landing) (is : c.in_ok-landing.field-0 ≡ o). subst (RunsHeld (OverNodes (g.S.Steps.stands s0)) d0 (g.S.Steps.seen s0) (g.S.Steps.seen s1)
    c.args.trace.now.reads c.insert_held.new.trace.reads Shared n c.args.coming.id) is h.ok in
    let s2 = c.insert_held-2.new.steps in
    let turned = first None c.in_default.is in
    let on = λ (base : Index) (o : OverNodes (g.S.Steps.stands s0) base). nodes_on base (h.goes.still_stands base o) o in
    once_alone n c.args.coming.id c.in-Some-2.landing h.goes.stays on turned
    (subst (λ (k : Desk). GoesThrough (OverNodes (g.S.Steps.stands s1)) (g.S.Steps.desk s1) (g.S.Steps.seen s1) (g.S.Steps.seen s2)
    c.insert_held.new.trace.reads c.insert_held-2.new.trace.reads Alone (newcomer_in k.params c.args.bits.now c.args.coming.level None) c.args.coming.id c.in-Some-2.landing)
    h.goes.stays
    (subst (RunsHeld (OverNodes (g.S.Steps.stands s1)) (g.S.Steps.desk s1) (g.S.Steps.seen s1) (g.S.Steps.seen s2)
    c.insert_held.new.trace.reads c.insert_held-2.new.trace.reads Alone (newcomer_in (g.S.Steps.desk s1).params c.args.bits.now c.args.coming.level None) c.args.coming.id)
    c.in-Some-2.is c.in_ok-landing-2.ensures.ok))
