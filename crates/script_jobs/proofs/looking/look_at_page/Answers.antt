use Rattle.layer_search.proofs.Looks.{fails}
use Rattle.vec_steps.proofs.Following.{goes_over}
use Rattle.script_jobs.proofs.Looked.{page_asks, page_exact, page_failed, page_looked}
use Rattle.script_jobs.proofs.looking.look_at_page.Goals as goal

pub returns-in_err-step-clause-goes : goal.returns-in_err-step-clause-goes
returns-in_err-step-clause-goes g c = goes_over (page_asks c.args.block) c.in_err-step.ensures.goes

pub returns-in_err-step-clause-err : goal.returns-in_err-step-clause-err
returns-in_err-step-clause-err g c =
    fails c.from_residual.result (λ e is. page_failed c.args.block c.in_err-step.field-0.0 e is c.in_err-step.ensures.err) c.from_residual.ensures.1

pub returns-clause-goes : goal.returns-clause-goes
returns-clause-goes g c = goes_over (page_asks c.args.block) c.in_ok-step.ensures.goes

pub returns-clause-looked : goal.returns-clause-looked
returns-clause-looked g c = page_looked c.args.block c.in_ok-step.ensures.ok

pub returns-clause-exact : goal.returns-clause-exact
returns-clause-exact g c = page_exact c.args.block c.in_ok-step.ensures.ok
