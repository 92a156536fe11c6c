use Rattle.std.proofs.Common.{subst, sym, ◌∙◌}
use Rattle.vec_history.specs.declared.gate.Gate.TheVariants.{Scan}
use Rattle.vec_history.specs.Gates.{Holds}
use Rattle.graph_search.specs.Scan.{last_dist}
use Rattle.vec_steps.specs.Desks.{Desk}
use Rattle.vec_steps.proofs.Following.{goes_over, goes_then}
use Rattle.step_gates.specs.Gating.{GateFailed}
use Rattle.layer_search.specs.Telling.{OverSpots, spots_held}
use Rattle.layer_search.specs.Looking.{MadeLooks}
use Rattle.layer_search.specs.Resuming.{CanGoOn, holding}
use Rattle.layer_search.proofs.Looks.{fails}
use Rattle.layer_search.proofs.Told.{stand_later}
use Rattle.hnsw_scan.specs.Answering.{given_in, mode_of}
use Rattle.hnsw_scan.specs.Gathering.{GivesNext, ScanStands}
use Rattle.hnsw_scan.proofs.Giving.{next_as}
use Rattle.hnsw_scan.proofs.Quiet.{QuietActs, quiet_either, quiet_ended, quiet_looks}
use Rattle.hnsw_scan.proofs.Under.{end_freed, ended_gated, gave, if_err, if_ok, made_gated, none_held, not_given_either, not_taken_by, on_both, on_ok, still_held, still_there, takes_over}
use Rattle.hnsw_scan.proofs.gated.next_gated.Goals as goal

pub take_gate-requires-clause-free : goal.take_gate-requires-clause-free
take_gate-requires-clause-free g c = λ h. c.requires.gates Scan h

pub returns-in_err-take_gate-clause-goes : goal.returns-in_err-take_gate-clause-goes
returns-in_err-take_gate-clause-goes g c = goes_over (λ base o. o.stood) c.in_err-take_gate.ensures.goes

pub returns-in_err-take_gate-clause-err : goal.returns-in_err-take_gate-clause-err
returns-in_err-take_gate-clause-err g c =
    fails c.from_residual.result (λ e is. not_taken_by e c.in_err-take_gate.field-0.0 is (λ base o. o.stood) c.in_err-take_gate.ensures.err)
    c.from_residual.ensures.1

pub returns-in_err-take_gate-clause-freed : goal.returns-in_err-take_gate-clause-freed
returns-in_err-take_gate-clause-freed g c =
    fails c.from_residual.result
    (λ e is. end_freed e c.requires.gates (not_taken_by e c.in_err-take_gate.field-0.0 is (λ base o. o.stood) c.in_err-take_gate.ensures.err))
    c.from_residual.ensures.1

pub give_back-requires-clause-held : goal.give_back-requires-clause-held
give_back-requires-clause-held g c =
    let S = g.S.Steps in
    let t = c.in_ok-take_gate.ensures in
    let b = c.next_batch-made.ensures in
    let seen1 = S.seen c.take_gate.new.steps in
    let seen2 = S.seen c.next_batch-made.new.steps in
    let quiet = subst (λ (k : Desk). QuietActs k.number seen1 seen2) t.goes.stays
    (quiet_either c.next_batch-made.result (λ given p. quiet_looks p) (λ e q. quiet_ended q) b.looked b.err) in
    subst (λ (k : Desk). Holds seen2 k.number Scan) (sym (b.goes.stays ∙ t.goes.stays)) (still_held t.ok quiet)

pub returns-in_err-give_back-clause-goes : goal.returns-in_err-give_back-clause-goes
returns-in_err-give_back-clause-goes g c =
    let t = c.in_ok-take_gate.ensures in
    let b = c.next_batch-made.ensures in
    goes_then g.met.S.Steps.comes_on
    (λ base o. b.goes.still_stands base (still_there (spots_held (holding c.args.search.now)) (g.met.S.Steps.shaped c.take_gate.new.steps) (g.met.S.Steps.legal c.take_gate.new.steps) t.ok.does.acts t.goes.still_stands base o))
    (goes_then g.met.S.Steps.comes_on (still_there (spots_held (holding c.args.search.now)) (g.met.S.Steps.shaped c.take_gate.new.steps) (g.met.S.Steps.legal c.take_gate.new.steps) t.ok.does.acts t.goes.still_stands) (goes_over (λ base o. o.stood) t.goes) b.goes)
    c.in_err-give_back.ensures.goes

pub returns-in_err-give_back-clause-err : goal.returns-in_err-give_back-clause-err
returns-in_err-give_back-clause-err g c =
    let t = c.in_ok-take_gate.ensures in
    let b = c.next_batch-made.ensures in
    let f = c.in_err-give_back.ensures in
    fails c.from_residual-in_err-give_back.result
    (λ e is. not_given_either t.goes.stays b.goes.stays (λ base o. o.stood) (still_there (spots_held (holding c.args.search.now)) (g.met.S.Steps.shaped c.take_gate.new.steps) (g.met.S.Steps.legal c.take_gate.new.steps) t.ok.does.acts t.goes.still_stands)
    (λ base o. b.goes.still_stands base (still_there (spots_held (holding c.args.search.now)) (g.met.S.Steps.shaped c.take_gate.new.steps) (g.met.S.Steps.legal c.take_gate.new.steps) t.ok.does.acts t.goes.still_stands base o))
    c.next_batch-made.result (λ given p. p) b.looked b.err t.ok
    (subst (GateFailed (g.S.Steps.stands c.next_batch-made.new.steps) (g.S.Steps.desk c.next_batch-made.new.steps)
    (g.S.Steps.seen c.next_batch-made.new.steps) (g.S.Steps.seen c.give_back.new.steps)) (sym is) f.err)
    (λ memory. f.no_memory (sym is ∙ memory))) c.from_residual-in_err-give_back.ensures.1

pub returns-in_err-give_back-clause-freed : goal.returns-in_err-give_back-clause-freed
returns-in_err-give_back-clause-freed g c =
    let t = c.in_ok-take_gate.ensures in
    let b = c.next_batch-made.ensures in
    let f = c.in_err-give_back.ensures in
    fails c.from_residual-in_err-give_back.result
    (λ e is. end_freed e c.requires.gates (not_given_either t.goes.stays b.goes.stays (λ base o. o.stood) (still_there (spots_held (holding c.args.search.now)) (g.met.S.Steps.shaped c.take_gate.new.steps) (g.met.S.Steps.legal c.take_gate.new.steps) t.ok.does.acts t.goes.still_stands)
    (λ base o. b.goes.still_stands base (still_there (spots_held (holding c.args.search.now)) (g.met.S.Steps.shaped c.take_gate.new.steps) (g.met.S.Steps.legal c.take_gate.new.steps) t.ok.does.acts t.goes.still_stands base o))
    c.next_batch-made.result (λ given p. p) b.looked b.err t.ok
    (subst (GateFailed (g.S.Steps.stands c.next_batch-made.new.steps) (g.S.Steps.desk c.next_batch-made.new.steps)
    (g.S.Steps.seen c.next_batch-made.new.steps) (g.S.Steps.seen c.give_back.new.steps)) (sym is) f.err)
    (λ memory. f.no_memory (sym is ∙ memory)))) c.from_residual-in_err-give_back.ensures.1

pub returns-clause-goes : goal.returns-clause-goes
returns-clause-goes g c =
    let t = c.in_ok-take_gate.ensures in
    let b = c.next_batch-made.ensures in
    goes_then g.met.S.Steps.comes_on
    (λ base o. b.goes.still_stands base (still_there (spots_held (holding c.args.search.now)) (g.met.S.Steps.shaped c.take_gate.new.steps) (g.met.S.Steps.legal c.take_gate.new.steps) t.ok.does.acts t.goes.still_stands base o))
    (goes_then g.met.S.Steps.comes_on (still_there (spots_held (holding c.args.search.now)) (g.met.S.Steps.shaped c.take_gate.new.steps) (g.met.S.Steps.legal c.take_gate.new.steps) t.ok.does.acts t.goes.still_stands) (goes_over (λ base o. o.stood) t.goes) b.goes)
    c.in_ok-give_back.ensures.goes

pub next_batch-made-requires-clause-ready : goal.next_batch-made-requires-clause-ready
next_batch-made-requires-clause-ready g c =
    subst (λ (k : Desk). CanGoOn k.params.bits c.args.search.now) (sym c.in_ok-take_gate.ensures.goes.stays) c.requires.ready

pub returns-clause-ready : goal.returns-clause-ready
returns-clause-ready g c =
    on_both c.next_batch-made.result
    (λ p. subst (λ (k : Desk). CanGoOn k.params.bits c.next_batch-made.new.search) c.in_ok-take_gate.ensures.goes.stays p)
    c.next_batch-made.ensures.ready

pub returns-clause-told : goal.returns-clause-told
returns-clause-told g c =
    let t = c.in_ok-take_gate.ensures in
    let b = c.next_batch-made.ensures in
    let last = c.give_back.new.steps in
    on_both c.next_batch-made.result
    (λ p base o.
    let low = still_there (spots_held (holding c.args.search.now)) (g.met.S.Steps.shaped c.take_gate.new.steps) (g.met.S.Steps.legal c.take_gate.new.steps) t.ok.does.acts t.goes.still_stands base o in
    let stood = c.in_ok-give_back.ensures.goes.still_stands base (b.goes.still_stands base low) in
    record {
      stood = stood;
      there = stand_later 0 (spots_held (holding c.next_batch-made.new.search)) base (g.met.S.Steps.shaped last base stood)
          (g.met.S.Steps.legal last base stood) c.in_ok-give_back.ensures.ok.does.acts (p base low).there;
    })
    b.told

pub returns-clause-ok : goal.returns-clause-ok
returns-clause-ok g c =
    let S = g.S.Steps in
    let t = c.in_ok-take_gate.ensures in
    let b = c.next_batch-made.ensures in
    let s1 = c.take_gate.new.steps in
    let s2 = c.next_batch-made.new.steps in
    let h0 = holding c.args.search.now in
    let wish = c.args.wish in
    if_ok c.next_batch-made.result
    (λ given p stood st. next_as
    (λ reads m. made_gated t.goes.stays b.goes.stays (λ base o. o.stood) (still_there (spots_held (holding c.args.search.now)) (g.met.S.Steps.shaped c.take_gate.new.steps) (g.met.S.Steps.legal c.take_gate.new.steps) t.ok.does.acts t.goes.still_stands)
    (λ base o. b.goes.still_stands base (still_there (spots_held (holding c.args.search.now)) (g.met.S.Steps.shaped c.take_gate.new.steps) (g.met.S.Steps.legal c.take_gate.new.steps) t.ok.does.acts t.goes.still_stands base o)) t.ok m c.in_ok-give_back.ensures.ok)
    (subst (λ (k : Desk). GivesNext (MadeLooks (OverSpots (S.stands s1) (S.seen s1) 0 (spots_held h0)) (S.desk s1) (S.seen s1) (S.seen s2)
    c.args.trace.now.reads c.next_batch-made.new.trace.reads) k.params.ops c.args.query.now wish.ef wish.max (mode_of wish.mode) stood
    (given_in given.answers) given.end (holding c.next_batch-made.new.search) (last_dist wish.last (given_in given.answers))) t.goes.stays
    (p stood (subst (λ (k : Desk). ScanStands k.params.ops c.args.query.now h0 wish.last stood) (sym t.goes.stays) st))))
    b.ok

pub returns-clause-free : goal.returns-clause-free
returns-clause-free g c =
    let S = g.S.Steps in
    let t = c.in_ok-take_gate.ensures in
    let b = c.next_batch-made.ensures in
    let seen1 = S.seen c.take_gate.new.steps in
    let seen2 = S.seen c.next_batch-made.new.steps in
    let quiet = subst (λ (k : Desk). QuietActs k.number seen1 seen2) t.goes.stays
    (quiet_either c.next_batch-made.result (λ given p. quiet_looks p) (λ e q. quiet_ended q) b.looked b.err) in
    let low = still_there (spots_held (holding c.args.search.now)) (g.met.S.Steps.shaped c.take_gate.new.steps) (g.met.S.Steps.legal c.take_gate.new.steps) t.ok.does.acts t.goes.still_stands in
    on_ok c.next_batch-made.result (none_held c.requires.gates (takes_over (λ base o. o.stood) t.ok) quiet
    (gave (b.goes.stays ∙ t.goes.stays) (λ base o. b.goes.still_stands base (low base o)) c.in_ok-give_back.ensures.ok))

pub returns-clause-err : goal.returns-clause-err
returns-clause-err g c =
    let t = c.in_ok-take_gate.ensures in
    let b = c.next_batch-made.ensures in
    if_err c.next_batch-made.result
    (λ e q. ended_gated t.goes.stays b.goes.stays (λ base o. o.stood) (still_there (spots_held (holding c.args.search.now)) (g.met.S.Steps.shaped c.take_gate.new.steps) (g.met.S.Steps.legal c.take_gate.new.steps) t.ok.does.acts t.goes.still_stands)
    (λ base o. b.goes.still_stands base (still_there (spots_held (holding c.args.search.now)) (g.met.S.Steps.shaped c.take_gate.new.steps) (g.met.S.Steps.legal c.take_gate.new.steps) t.ok.does.acts t.goes.still_stands base o)) t.ok q c.in_ok-give_back.ensures.ok)
    b.err

pub returns-clause-freed : goal.returns-clause-freed
returns-clause-freed g c =
    let t = c.in_ok-take_gate.ensures in
    let b = c.next_batch-made.ensures in
    if_err c.next_batch-made.result
    (λ e q. end_freed e c.requires.gates
    (ended_gated t.goes.stays b.goes.stays (λ base o. o.stood) (still_there (spots_held (holding c.args.search.now)) (g.met.S.Steps.shaped c.take_gate.new.steps) (g.met.S.Steps.legal c.take_gate.new.steps) t.ok.does.acts t.goes.still_stands)
    (λ base o. b.goes.still_stands base (still_there (spots_held (holding c.args.search.now)) (g.met.S.Steps.shaped c.take_gate.new.steps) (g.met.S.Steps.legal c.take_gate.new.steps) t.ok.does.acts t.goes.still_stands base o)) t.ok q c.in_ok-give_back.ensures.ok))
    b.err
