use Rattle.std.proofs.Common.{◌∙◌, inl, inr, None, sym, subst}
use Rattle.std.specs.Prelude.{IfOk}
use Rattle.vec_history.specs.declared.gate.Gate.TheVariants.{Update}
use Rattle.vec_history.specs.Gates.{Holds}
use Rattle.vec_steps.specs.Index.{Index}
use Rattle.vec_steps.specs.Desks.{Desk}
use Rattle.layer_search.specs.Listing.{newcomer_in}
use Rattle.hnsw_insert.specs.Over.{OverNodes}
use Rattle.hnsw_insert.specs.Parts.{IsFullUnder, RunsUnder}
use Rattle.hnsw_insert.proofs.Lasts.{nodes_on}
use Rattle.hnsw_insert.proofs.Stopped.{handed, on_err}
use Rattle.hnsw_insert.proofs.Gates.{all_held, failed_over, fault_held, gate_free, gate_keeps, gate_stops, held_after, keeps_over, late_held, taken_holds, takes_over}
use Rattle.hnsw_insert.proofs.inserting.insert_held.Goals as goal

pub returns-in_err-take_gate-clause-err : goal.returns-in_err-take_gate-clause-err
returns-in_err-take_gate-clause-err g c =
    let failed = failed_over (λ (base : Index) (o : OverNodes (g.S.Steps.stands c.args.steps.now) base). o.stood) c.in_err-take_gate.ensures.err in
    handed _ c.from_residual.result (gate_stops failed) c.from_residual.ensures.1

pub returns-in_err-take_gate-clause-given : goal.returns-in_err-take_gate-clause-given
returns-in_err-take_gate-clause-given g c =
    on_err c.from_residual.result (inl (gate_free c.in_err-take_gate.ensures.err c.requires.free))

pub give_back-requires-clause-held : goal.give_back-requires-clause-held
give_back-requires-clause-held g c =
    let s1 = c.take_gate.new.steps in
    let t = c.in_ok-take_gate.ensures in
    let u = c.run_under-done.ensures in
    held_after (OverNodes (g.S.Steps.stands s1)) (IsFullUnder c.args.hold c.args.coming.level) c.args.trace.now.reads c.run_under-done.new.trace.reads c.args.hold
    (newcomer_in (g.S.Steps.desk s1).params c.args.bits.now c.args.coming.level None) c.args.coming.id c.run_under-done.result u.goes.stays u.ok u.err
    (subst (λ (k : Desk). Holds (g.S.Steps.seen s1) k.number Update) (sym t.goes.stays) (taken_holds t.ok))

pub returns-in-Ok-clause-ok : goal.returns-in-Ok-clause-ok
returns-in-Ok-clause-ok g c =
    let s0 = c.args.steps.now in
    let d0 = g.S.Steps.desk s0 in
    let s1 = c.take_gate.new.steps in
    let s2 = c.run_under-done.new.steps in
    let t = c.in_ok-take_gate.ensures in
    let u = c.run_under-done.ensures in
    let n = newcomer_in d0.params c.args.bits.now c.args.coming.level None in
    let on_1 = λ (base : Index) (o : OverNodes (g.S.Steps.stands s0) base). nodes_on base (t.goes.still_stands base o.stood) o in
    let taken = takes_over (λ (base : Index) (o : OverNodes (g.S.Steps.stands s0) base). o.stood) t.ok in
    let ok = subst (λ (k : Desk). IfOk c.run_under-done.result (RunsUnder (OverNodes (g.S.Steps.stands s1)) (g.S.Steps.desk s1) (g.S.Steps.seen s1) (g.S.Steps.seen s2)
    c.args.trace.now.reads c.run_under-done.new.trace.reads c.args.hold (newcomer_in k.params c.args.bits.now c.args.coming.level None) c.args.coming.id)) t.goes.stays u.ok in
    all_held c.args.trace.now.reads c.run_under-done.new.trace.reads n c.args.coming.id t.goes.stays u.goes.stays on_1 u.goes.still_stands taken c.run_under-done.result
    c.in-Ok.ensures.ok ok

pub returns-in-Ok-clause-err : goal.returns-in-Ok-clause-err
returns-in-Ok-clause-err g c =
    let s0 = c.args.steps.now in
    let d0 = g.S.Steps.desk s0 in
    let s1 = c.take_gate.new.steps in
    let s2 = c.run_under-done.new.steps in
    let t = c.in_ok-take_gate.ensures in
    let u = c.run_under-done.ensures in
    let n = newcomer_in d0.params c.args.bits.now c.args.coming.level None in
    let on_1 = λ (base : Index) (o : OverNodes (g.S.Steps.stands s0) base). nodes_on base (t.goes.still_stands base o.stood) o in
    let taken = takes_over (λ (base : Index) (o : OverNodes (g.S.Steps.stands s0) base). o.stood) t.ok in
    let ok = subst (λ (k : Desk). IfOk c.run_under-done.result (RunsUnder (OverNodes (g.S.Steps.stands s1)) (g.S.Steps.desk s1) (g.S.Steps.seen s1) (g.S.Steps.seen s2)
    c.args.trace.now.reads c.run_under-done.new.trace.reads c.args.hold (newcomer_in k.params c.args.bits.now c.args.coming.level None) c.args.coming.id)) t.goes.stays u.ok in
    fault_held c.args.trace.now.reads c.run_under-done.new.trace.reads n c.args.coming.id t.goes.stays u.goes.stays on_1 u.goes.still_stands taken c.run_under-done.result
    c.in-Ok.ensures.ok u.err

pub returns-in-Err-clause-err : goal.returns-in-Err-clause-err
returns-in-Err-clause-err g c =
    let s0 = c.args.steps.now in
    let d0 = g.S.Steps.desk s0 in
    let s1 = c.take_gate.new.steps in
    let s2 = c.run_under-done.new.steps in
    let t = c.in_ok-take_gate.ensures in
    let u = c.run_under-done.ensures in
    let n = newcomer_in d0.params c.args.bits.now c.args.coming.level None in
    let on_1 = λ (base : Index) (o : OverNodes (g.S.Steps.stands s0) base). nodes_on base (t.goes.still_stands base o.stood) o in
    let taken = takes_over (λ (base : Index) (o : OverNodes (g.S.Steps.stands s0) base). o.stood) t.ok in
    let ok = subst (λ (k : Desk). IfOk c.run_under-done.result (RunsUnder (OverNodes (g.S.Steps.stands s1)) (g.S.Steps.desk s1) (g.S.Steps.seen s1) (g.S.Steps.seen s2)
    c.args.trace.now.reads c.run_under-done.new.trace.reads c.args.hold (newcomer_in k.params c.args.bits.now c.args.coming.level None) c.args.coming.id)) t.goes.stays u.ok in
    late_held c.args.trace.now.reads c.run_under-done.new.trace.reads n c.args.coming.id t.goes.stays u.goes.stays on_1 u.goes.still_stands taken c.run_under-done.result
    c.fault_of.result c.in-Err.fault c.in-Err.ensures.err c.fault_of.ensures.first c.fault_of.ensures.second ok u.err

pub returns-in-Err-clause-given : goal.returns-in-Err-clause-given
returns-in-Err-clause-given g c =
    let s0 = c.args.steps.now in
    let d0 = g.S.Steps.desk s0 in
    let s1 = c.take_gate.new.steps in
    let s2 = c.run_under-done.new.steps in
    let t = c.in_ok-take_gate.ensures in
    let u = c.run_under-done.ensures in
    let n = newcomer_in d0.params c.args.bits.now c.args.coming.level None in
    let on_1 = λ (base : Index) (o : OverNodes (g.S.Steps.stands s0) base). nodes_on base (t.goes.still_stands base o.stood) o in
    let taken = takes_over (λ (base : Index) (o : OverNodes (g.S.Steps.stands s0) base). o.stood) t.ok in
    let ok = subst (λ (k : Desk). IfOk c.run_under-done.result (RunsUnder (OverNodes (g.S.Steps.stands s1)) (g.S.Steps.desk s1) (g.S.Steps.seen s1) (g.S.Steps.seen s2)
    c.args.trace.now.reads c.run_under-done.new.trace.reads c.args.hold (newcomer_in k.params c.args.bits.now c.args.coming.level None) c.args.coming.id)) t.goes.stays u.ok in
    inr (keeps_over (u.goes.stays ∙ t.goes.stays) (λ base o. u.goes.still_stands base (on_1 base o)) (gate_keeps c.in-Err.ensures.err c.in-Err.ensures.no_memory))
