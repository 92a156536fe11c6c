use Rattle.std.proofs.Common.{[], None, subst, sym, ◌∙◌}
use Rattle.vec_history.specs.declared.gate.Gate.TheVariants.{Scan}
use Rattle.vec_history.specs.Gates.{Holds}
use Rattle.graph_search.specs.Scan.{last_dist}
use Rattle.vec_steps.specs.Desks.{Desk}
use Rattle.vec_steps.proofs.Following.{goes_over, goes_then}
use Rattle.step_gates.specs.Gating.{GateFailed}
use Rattle.layer_search.specs.Telling.{OverSpots, spots_held}
use Rattle.layer_search.specs.Looking.{MadeLooks}
use Rattle.layer_search.specs.Resuming.{CanGoOn, holding}
use Rattle.layer_search.proofs.Looks.{fails}
use Rattle.layer_search.proofs.Told.{stand_later}
use Rattle.layer_search.proofs.Turns.{none_over}
use Rattle.hnsw_scan.specs.Answering.{given_in}
use Rattle.hnsw_scan.specs.Gathering.{GivesFirst}
use Rattle.hnsw_scan.proofs.Giving.{first_as}
use Rattle.hnsw_scan.proofs.Quiet.{QuietActs, only_looks, quiet_either, quiet_ended, quiet_looks}
use Rattle.hnsw_scan.proofs.Under.{end_freed, ended_gated, gave, if_err, if_ok, made_gated, none_held, not_given_either, not_taken_by, on_ok, still_held, takes_over}
use Rattle.hnsw_scan.proofs.gated.first_gated.Goals as goal

pub take_gate-requires-clause-free : goal.take_gate-requires-clause-free
take_gate-requires-clause-free g c = λ h. c.requires.gates Scan h

pub returns-in_err-take_gate-clause-goes : goal.returns-in_err-take_gate-clause-goes
returns-in_err-take_gate-clause-goes g c = goes_over (λ base o. o.stood) c.in_err-take_gate.ensures.goes

pub returns-in_err-take_gate-clause-err : goal.returns-in_err-take_gate-clause-err
returns-in_err-take_gate-clause-err g c =
    fails c.from_residual.result (λ e is. not_taken_by e c.in_err-take_gate.field-0.0 is (λ base o. o.stood) c.in_err-take_gate.ensures.err)
    c.from_residual.ensures.1

pub returns-in_err-take_gate-clause-freed : goal.returns-in_err-take_gate-clause-freed
returns-in_err-take_gate-clause-freed g c =
    fails c.from_residual.result
    (λ e is. end_freed e c.requires.gates (not_taken_by e c.in_err-take_gate.field-0.0 is (λ base o. o.stood) c.in_err-take_gate.ensures.err))
    c.from_residual.ensures.1

pub give_back-requires-clause-held : goal.give_back-requires-clause-held
give_back-requires-clause-held g c =
    let S = g.S.Steps in
    let t = c.in_ok-take_gate.ensures in
    let b = c.first_batch-made.ensures in
    let seen1 = S.seen c.take_gate.new.steps in
    let seen2 = S.seen c.first_batch-made.new.steps in
    let quiet = subst (λ (k : Desk). QuietActs k.number seen1 seen2) t.goes.stays
    (quiet_either c.first_batch-made.result (λ begun p. quiet_looks (only_looks p.made)) (λ e q. quiet_ended q) b.ok b.err) in
    subst (λ (k : Desk). Holds seen2 k.number Scan) (sym (b.goes.stays ∙ t.goes.stays)) (still_held t.ok quiet)

pub returns-in_err-give_back-clause-goes : goal.returns-in_err-give_back-clause-goes
returns-in_err-give_back-clause-goes g c =
    let t = c.in_ok-take_gate.ensures in
    let b = c.first_batch-made.ensures in
    goes_then g.met.S.Steps.comes_on
    (λ base o. b.goes.still_stands base (none_over (λ x p. t.goes.still_stands x p.stood) base o))
    (goes_then g.met.S.Steps.comes_on (none_over (λ x p. t.goes.still_stands x p.stood)) (goes_over (λ base o. o.stood) t.goes) b.goes)
    c.in_err-give_back.ensures.goes

pub returns-in_err-give_back-clause-err : goal.returns-in_err-give_back-clause-err
returns-in_err-give_back-clause-err g c =
    let t = c.in_ok-take_gate.ensures in
    let b = c.first_batch-made.ensures in
    let f = c.in_err-give_back.ensures in
    fails c.from_residual-in_err-give_back.result
    (λ e is. not_given_either t.goes.stays b.goes.stays (λ base o. o.stood) (none_over (λ x p. t.goes.still_stands x p.stood))
    (λ base o. b.goes.still_stands base (none_over (λ x p. t.goes.still_stands x p.stood) base o))
    c.first_batch-made.result (λ begun p. only_looks p.made) b.ok b.err t.ok
    (subst (GateFailed (g.S.Steps.stands c.first_batch-made.new.steps) (g.S.Steps.desk c.first_batch-made.new.steps)
    (g.S.Steps.seen c.first_batch-made.new.steps) (g.S.Steps.seen c.give_back.new.steps)) (sym is) f.err)
    (λ memory. f.no_memory (sym is ∙ memory))) c.from_residual-in_err-give_back.ensures.1

pub returns-in_err-give_back-clause-freed : goal.returns-in_err-give_back-clause-freed
returns-in_err-give_back-clause-freed g c =
    let t = c.in_ok-take_gate.ensures in
    let b = c.first_batch-made.ensures in
    let f = c.in_err-give_back.ensures in
    fails c.from_residual-in_err-give_back.result
    (λ e is. end_freed e c.requires.gates (not_given_either t.goes.stays b.goes.stays (λ base o. o.stood) (none_over (λ x p. t.goes.still_stands x p.stood))
    (λ base o. b.goes.still_stands base (none_over (λ x p. t.goes.still_stands x p.stood) base o))
    c.first_batch-made.result (λ begun p. only_looks p.made) b.ok b.err t.ok
    (subst (GateFailed (g.S.Steps.stands c.first_batch-made.new.steps) (g.S.Steps.desk c.first_batch-made.new.steps)
    (g.S.Steps.seen c.first_batch-made.new.steps) (g.S.Steps.seen c.give_back.new.steps)) (sym is) f.err)
    (λ memory. f.no_memory (sym is ∙ memory)))) c.from_residual-in_err-give_back.ensures.1

pub returns-clause-goes : goal.returns-clause-goes
returns-clause-goes g c =
    let t = c.in_ok-take_gate.ensures in
    let b = c.first_batch-made.ensures in
    goes_then g.met.S.Steps.comes_on
    (λ base o. b.goes.still_stands base (none_over (λ x p. t.goes.still_stands x p.stood) base o))
    (goes_then g.met.S.Steps.comes_on (none_over (λ x p. t.goes.still_stands x p.stood)) (goes_over (λ base o. o.stood) t.goes) b.goes)
    c.in_ok-give_back.ensures.goes

pub returns-clause-ready : goal.returns-clause-ready
returns-clause-ready g c =
    if_ok c.first_batch-made.result (λ begun p. subst (λ (k : Desk). CanGoOn k.params.bits begun.search) c.in_ok-take_gate.ensures.goes.stays p)
    c.first_batch-made.ensures.ready

pub returns-clause-told : goal.returns-clause-told
returns-clause-told g c =
    let t = c.in_ok-take_gate.ensures in
    let b = c.first_batch-made.ensures in
    let last = c.give_back.new.steps in
    if_ok c.first_batch-made.result
    (λ begun p base o.
    let low = none_over (λ x q. t.goes.still_stands x q.stood) base o in
    let stood = c.in_ok-give_back.ensures.goes.still_stands base (b.goes.still_stands base low) in
    record {
      stood = stood;
      there = stand_later 0 (spots_held (holding begun.search)) base (g.met.S.Steps.shaped last base stood) (g.met.S.Steps.legal last base stood)
          c.in_ok-give_back.ensures.ok.does.acts (p base low).there;
    })
    b.told

pub returns-clause-ok : goal.returns-clause-ok
returns-clause-ok g c =
    let S = g.S.Steps in
    let t = c.in_ok-take_gate.ensures in
    let b = c.first_batch-made.ensures in
    let s1 = c.take_gate.new.steps in
    let s2 = c.first_batch-made.new.steps in
    if_ok c.first_batch-made.result
    (λ begun p. first_as
    (λ reads m. made_gated t.goes.stays b.goes.stays (λ base o. o.stood) (none_over (λ x q. t.goes.still_stands x q.stood))
    (λ base o. b.goes.still_stands base (none_over (λ x q. t.goes.still_stands x q.stood) base o)) t.ok m c.in_ok-give_back.ensures.ok)
    (subst (λ (k : Desk). GivesFirst (MadeLooks (OverSpots (S.stands s1) (S.seen s1) 0 []) (S.desk s1) (S.seen s1) (S.seen s2) c.args.trace.now.reads
    c.first_batch-made.new.trace.reads) k.params.ops c.args.query.now c.args.ef (given_in begun.answers) (holding begun.search)
    (last_dist None (given_in begun.answers))) t.goes.stays p))
    b.ok

pub returns-clause-free : goal.returns-clause-free
returns-clause-free g c =
    let S = g.S.Steps in
    let t = c.in_ok-take_gate.ensures in
    let b = c.first_batch-made.ensures in
    let seen1 = S.seen c.take_gate.new.steps in
    let seen2 = S.seen c.first_batch-made.new.steps in
    let quiet = subst (λ (k : Desk). QuietActs k.number seen1 seen2) t.goes.stays
    (quiet_either c.first_batch-made.result (λ begun p. quiet_looks (only_looks p.made)) (λ e q. quiet_ended q) b.ok b.err) in
    on_ok c.first_batch-made.result (none_held c.requires.gates (takes_over (λ base o. o.stood) t.ok) quiet
    (gave {over = OverSpots (S.stands c.args.steps.now) (S.seen c.args.steps.now) 0 []} (b.goes.stays ∙ t.goes.stays) (λ base o. b.goes.still_stands base (none_over (λ x q. t.goes.still_stands x q.stood) base o)) c.in_ok-give_back.ensures.ok))

pub returns-clause-err : goal.returns-clause-err
returns-clause-err g c =
    let t = c.in_ok-take_gate.ensures in
    let b = c.first_batch-made.ensures in
    if_err c.first_batch-made.result
    (λ e q. ended_gated t.goes.stays b.goes.stays (λ base o. o.stood) (none_over (λ x p. t.goes.still_stands x p.stood))
    (λ base o. b.goes.still_stands base (none_over (λ x p. t.goes.still_stands x p.stood) base o)) t.ok q c.in_ok-give_back.ensures.ok)
    b.err

pub returns-clause-freed : goal.returns-clause-freed
returns-clause-freed g c =
    let t = c.in_ok-take_gate.ensures in
    let b = c.first_batch-made.ensures in
    if_err c.first_batch-made.result
    (λ e q. end_freed e c.requires.gates
    (ended_gated t.goes.stays b.goes.stays (λ base o. o.stood) (none_over (λ x p. t.goes.still_stands x p.stood))
    (λ base o. b.goes.still_stands base (none_over (λ x p. t.goes.still_stands x p.stood) base o)) t.ok q c.in_ok-give_back.ensures.ok))
    b.err
