use Rattle.vec_steps.proofs.Following.{goes_then}
use Rattle.hnsw_vacuum.proofs.Stopped.{handed}
use Rattle.hnsw_vacuum.proofs.Pages.{all_pages, all_removed, then_stops}
use Rattle.hnsw_vacuum.proofs.SeesPages.{all_seen}
use Rattle.hnsw_vacuum.proofs.removing.remove.Goals as goal

pub returns-in_err-now-clause-goes : goal.returns-in_err-now-clause-goes
returns-in_err-now-clause-goes g c =
    goes_then g.met.S.Steps.comes_on
    (λ base o. let st = c.in_ok-look_at_meta.ensures.goes.still_stands base o in all_pages c.in_ok-look_at_meta.ensures.goes.stays c.requires.phase c.in_ok-look_at_meta.ensures.ok base (g.met.S.Steps.legal c.look_at_meta.new.steps base st) o (c.in_ok-look_at_meta.ensures.there base o))
    c.in_ok-look_at_meta.ensures.goes c.in_err-now.ensures.goes

pub returns-in_err-now-clause-err : goal.returns-in_err-now-clause-err
returns-in_err-now-clause-err g c =
    handed _ c.from_residual-in_err-now.result
    (then_stops (λ id b. g.F.Fn.post c.args.dead.now (id, tt) b) c.in_ok-look_at_meta.ensures.goes.stays
    (λ base o. let st = c.in_ok-look_at_meta.ensures.goes.still_stands base o in all_pages c.in_ok-look_at_meta.ensures.goes.stays c.requires.phase c.in_ok-look_at_meta.ensures.ok base (g.met.S.Steps.legal c.look_at_meta.new.steps base st) o (c.in_ok-look_at_meta.ensures.there base o))
    c.in_ok-look_at_meta.ensures.ok c.in_err-now.ensures.err)
    c.from_residual-in_err-now.ensures.1

pub returns-clause-goes : goal.returns-clause-goes
returns-clause-goes g c =
    goes_then g.met.S.Steps.comes_on
    (λ base o. let st = c.in_ok-look_at_meta.ensures.goes.still_stands base o in all_pages c.in_ok-look_at_meta.ensures.goes.stays c.requires.phase c.in_ok-look_at_meta.ensures.ok base (g.met.S.Steps.legal c.look_at_meta.new.steps base st) o (c.in_ok-look_at_meta.ensures.there base o))
    c.in_ok-look_at_meta.ensures.goes c.in_ok-now.ensures.goes

pub returns-clause-ok : goal.returns-clause-ok
returns-clause-ok g c =
    all_removed (λ id b. g.F.Fn.post c.args.dead.now (id, tt) b) c.in_ok-look_at_meta.ensures.goes.stays
    (λ base o. let st = c.in_ok-look_at_meta.ensures.goes.still_stands base o in all_pages c.in_ok-look_at_meta.ensures.goes.stays c.requires.phase c.in_ok-look_at_meta.ensures.ok base (g.met.S.Steps.legal c.look_at_meta.new.steps base st) o (c.in_ok-look_at_meta.ensures.there base o))
    c.in_ok-look_at_meta.ensures.ok c.in_ok-now.ensures.ok

pub returns-clause-sees_to : goal.returns-clause-sees_to
returns-clause-sees_to g c = λ going base o.
    let look = c.in_ok-look_at_meta.ensures in
    let mid = c.look_at_meta.new.steps in
    let st = look.goes.still_stands base o in
    let legal = g.met.S.Steps.legal mid base st in
    all_seen (λ id b. g.F.Fn.post c.args.dead.now (id, tt) b) look.goes.stays c.requires.phase look.ok.does.acts base (g.met.S.Steps.shaped c.args.steps.now base o.stood) legal o (look.there base o)
    (c.in_ok-now.ensures.sees_to going base (all_pages look.goes.stays c.requires.phase look.ok base legal o (look.there base o)))
