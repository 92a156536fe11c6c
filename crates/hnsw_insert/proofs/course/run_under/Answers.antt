use Rattle.std.proofs.Common.{◌≤◌, ◌∙◌, None, ap, sym, subst}
use Rattle.vec_names.specs.Params.{IsInRange}
use Rattle.vec_names.specs.Levels.{most_level}
use Rattle.vec_steps.specs.Desks.{Desk}
use Rattle.vec_steps.proofs.Following.{goes_then}
use Rattle.layer_search.specs.Listing.{newcomer_in}
use Rattle.hnsw_insert.specs.Over.{AreBlocks, OverGraphs}
use Rattle.hnsw_insert.specs.Parts.{RunsCourse}
use Rattle.hnsw_insert.proofs.Stopped.{handed, never_full, stops_then}
use Rattle.hnsw_insert.proofs.Under.{full_under, runs_leaves, runs_stays, still_held}
use Rattle.hnsw_insert.proofs.course.run_under.Goals as goal

pub returns-in_err-look_at_meta-clause-err : goal.returns-in_err-look_at_meta-clause-err
returns-in_err-look_at_meta-clause-err g c =
    handed _ c.from_residual.result (never_full (λ base o. o) c.in_err-look_at_meta.ensures.err) c.from_residual.ensures.1

pub returns-then-leaves-clause-ok : goal.returns-then-leaves-clause-ok
returns-then-leaves-clause-ok g c =
    let s0 = c.args.steps.now in
    let d0 = g.S.Steps.desk s0 in
    let s1 = c.look_at_meta.new.steps in
    let t = c.look_at_meta.new.told in
    let m = c.in_ok-look_at_meta.ensures in
    let n = newcomer_in d0.params c.args.bits.now c.args.coming.level None in
    runs_leaves c.args.hold n c.args.coming.id t (c.leaves.ensures.shared c.if-leaves.true) (c.leaves.ensures.above c.if-leaves.true) m.ok

pub run_course-requires-clause-params : goal.run_course-requires-clause-params
run_course-requires-clause-params g c =
    let s0 = c.args.steps.now in
    let d0 = g.S.Steps.desk s0 in
    let s1 = c.look_at_meta.new.steps in
    let t = c.look_at_meta.new.told in
    let m = c.in_ok-look_at_meta.ensures in
    let n = newcomer_in d0.params c.args.bits.now c.args.coming.level None in
    subst (λ (d : Desk). IsInRange d.params) (sym m.goes.stays) c.requires.params

pub run_course-requires-clause-nodes : goal.run_course-requires-clause-nodes
run_course-requires-clause-nodes g c =
    let s0 = c.args.steps.now in
    let d0 = g.S.Steps.desk s0 in
    let s1 = c.look_at_meta.new.steps in
    let t = c.look_at_meta.new.told in
    let m = c.in_ok-look_at_meta.ensures in
    let n = newcomer_in d0.params c.args.bits.now c.args.coming.level None in
    ap (λ (d : Desk). d.params.kind) m.goes.stays ∙ c.requires.nodes

pub run_course-requires-clause-level : goal.run_course-requires-clause-level
run_course-requires-clause-level g c =
    let s0 = c.args.steps.now in
    let d0 = g.S.Steps.desk s0 in
    let s1 = c.look_at_meta.new.steps in
    let t = c.look_at_meta.new.told in
    let m = c.in_ok-look_at_meta.ensures in
    let n = newcomer_in d0.params c.args.bits.now c.args.coming.level None in
    subst (λ (d : Desk). c.args.coming.level ≤ most_level d.params.m) (sym m.goes.stays) c.requires.level

pub run_course-requires-clause-bits : goal.run_course-requires-clause-bits
run_course-requires-clause-bits g c =
    let s0 = c.args.steps.now in
    let d0 = g.S.Steps.desk s0 in
    let s1 = c.look_at_meta.new.steps in
    let t = c.look_at_meta.new.told in
    let m = c.in_ok-look_at_meta.ensures in
    let n = newcomer_in d0.params c.args.bits.now c.args.coming.level None in
    c.requires.bits ∙ ap (λ (d : Desk). d.params.bits) (sym m.goes.stays)

pub run_course-requires-clause-told : goal.run_course-requires-clause-told
run_course-requires-clause-told g c =
    let s0 = c.args.steps.now in
    let d0 = g.S.Steps.desk s0 in
    let s1 = c.look_at_meta.new.steps in
    let t = c.look_at_meta.new.told in
    let m = c.in_ok-look_at_meta.ensures in
    let n = newcomer_in d0.params c.args.bits.now c.args.coming.level None in
    m.told ∙ ap (λ (d : Desk). d.params.bits) (sym m.goes.stays)

pub run_course-requires-clause-held : goal.run_course-requires-clause-held
run_course-requires-clause-held g c =
    let s0 = c.args.steps.now in
    let d0 = g.S.Steps.desk s0 in
    let s1 = c.look_at_meta.new.steps in
    let t = c.look_at_meta.new.told in
    let m = c.in_ok-look_at_meta.ensures in
    let n = newcomer_in d0.params c.args.bits.now c.args.coming.level None in
    still_held m.goes.stays m.ok c.requires.held

pub returns-in_err-landing-clause-goes : goal.returns-in_err-landing-clause-goes
returns-in_err-landing-clause-goes g c =
    let s0 = c.args.steps.now in
    let d0 = g.S.Steps.desk s0 in
    let s1 = c.look_at_meta.new.steps in
    let t = c.look_at_meta.new.told in
    let m = c.in_ok-look_at_meta.ensures in
    let n = newcomer_in d0.params c.args.bits.now c.args.coming.level None in
    goes_then g.met.S.Steps.comes_on m.blocks m.goes c.in_err-landing.ensures.goes

pub returns-in_err-landing-clause-told : goal.returns-in_err-landing-clause-told
returns-in_err-landing-clause-told g c =
    let s0 = c.args.steps.now in
    let d0 = g.S.Steps.desk s0 in
    let s1 = c.look_at_meta.new.steps in
    let t = c.look_at_meta.new.told in
    let m = c.in_ok-look_at_meta.ensures in
    let n = newcomer_in d0.params c.args.bits.now c.args.coming.level None in
    c.in_err-landing.ensures.told ∙ ap (λ (d : Desk). d.params.bits) m.goes.stays

pub returns-in_err-landing-clause-err : goal.returns-in_err-landing-clause-err
returns-in_err-landing-clause-err g c =
    let s0 = c.args.steps.now in
    let d0 = g.S.Steps.desk s0 in
    let s1 = c.look_at_meta.new.steps in
    let t = c.look_at_meta.new.told in
    let m = c.in_ok-look_at_meta.ensures in
    let n = newcomer_in d0.params c.args.bits.now c.args.coming.level None in
    handed _ c.from_residual-in_err-landing.result
    (stops_then m.goes.stays m.blocks (full_under c.args.hold c.args.coming.level t (c.leaves.ensures.kept c.if-leaves.false) m.ok) m.ok.does m.ok.is.only
    c.in_err-landing.ensures.err) c.from_residual-in_err-landing.ensures.1

pub returns-clause-goes : goal.returns-clause-goes
returns-clause-goes g c =
    let s0 = c.args.steps.now in
    let d0 = g.S.Steps.desk s0 in
    let s1 = c.look_at_meta.new.steps in
    let t = c.look_at_meta.new.told in
    let m = c.in_ok-look_at_meta.ensures in
    let n = newcomer_in d0.params c.args.bits.now c.args.coming.level None in
    goes_then g.met.S.Steps.comes_on m.blocks m.goes c.in_ok-landing.ensures.goes

pub returns-clause-told : goal.returns-clause-told
returns-clause-told g c =
    let s0 = c.args.steps.now in
    let d0 = g.S.Steps.desk s0 in
    let s1 = c.look_at_meta.new.steps in
    let t = c.look_at_meta.new.told in
    let m = c.in_ok-look_at_meta.ensures in
    let n = newcomer_in d0.params c.args.bits.now c.args.coming.level None in
    c.in_ok-landing.ensures.told ∙ ap (λ (d : Desk). d.params.bits) m.goes.stays

pub returns-clause-ok : goal.returns-clause-ok
returns-clause-ok g c =
    let s0 = c.args.steps.now in
    let d0 = g.S.Steps.desk s0 in
    let s1 = c.look_at_meta.new.steps in
    let t = c.look_at_meta.new.told in
    let m = c.in_ok-look_at_meta.ensures in
    let n = newcomer_in d0.params c.args.bits.now c.args.coming.level None in
    runs_stays c.args.hold n c.args.coming.id t c.in_ok-landing.landing m.goes.stays m.blocks (c.leaves.ensures.kept c.if-leaves.false) m.ok
    (subst (λ (k : Desk). RunsCourse (OverGraphs (g.S.Steps.stands s1) (λ x. AreBlocks x (g.S.Steps.seen s1) t.hint t.blocks)) (g.S.Steps.desk s1) (g.S.Steps.seen s1)
    (g.S.Steps.seen c.run_course.new.steps) c.look_at_meta.new.trace.reads c.run_course.new.trace.reads (newcomer_in k.params c.args.bits.now c.args.coming.level None)
    c.args.coming.id t.hint t.blocks c.in_ok-landing.landing) m.goes.stays c.in_ok-landing.ensures.ok)
