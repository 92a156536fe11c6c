use Rattle.hnsw_insert.proofs.Lasts.{graphs_as}
use Rattle.hnsw_insert.proofs.Under.{meta_asks, meta_blocks}
use Rattle.layer_search.proofs.Looks.{fails}
use Rattle.vec_steps.proofs.Following.{goes_over}
use Rattle.script_jobs.proofs.Looked.{meta_exact, meta_failed, meta_looked}
use Rattle.script_jobs.proofs.looking.look_at_meta.Goals as goal

pub returns-in_err-step-clause-goes : goal.returns-in_err-step-clause-goes
returns-in_err-step-clause-goes g c = goes_over meta_asks c.in_err-step.ensures.goes

pub returns-in_err-step-clause-err : goal.returns-in_err-step-clause-err
returns-in_err-step-clause-err g c =
    fails c.from_residual.result (λ e is. meta_failed c.in_err-step.field-0.0 e is c.in_err-step.ensures.err) c.from_residual.ensures.1

pub returns-clause-goes : goal.returns-clause-goes
returns-clause-goes g c = goes_over meta_asks c.in_ok-step.ensures.goes

pub returns-clause-looked : goal.returns-clause-looked
returns-clause-looked g c = meta_looked c.in_ok-step.ensures.ok

pub returns-clause-there : goal.returns-clause-there
returns-clause-there g c = λ base o.
    let now = c.step.new.self in
    let st = c.in_ok-step.ensures.goes.still_stands base (meta_asks base o) in
    graphs_as base (λ g2 stood b. b.there)
    (meta_blocks c.in_ok-step.ensures.ok base st (g.met.S.Steps.shaped now base st) (g.met.S.Steps.legal now base st) o)

pub returns-clause-exact : goal.returns-clause-exact
returns-clause-exact g c = meta_exact c.in_ok-step.ensures.ok
