use Rattle.std.proofs.Common.{◌∙◌, List, ap, sym}
use Rattle.vec_history.specs.declared.event.Act.{Act}
use Rattle.vec_graph.specs.Effect.{after}
use Rattle.vec_steps.specs.Index.{OfNodes}
use Rattle.vec_steps.proofs.Following.{goes_then}
use Rattle.hnsw_insert.proofs.Stopped.{handed}
use Rattle.script_jobs.specs.Counting.{counts_of}
use Rattle.script_jobs.proofs.Looked.{between, ended_then, err_as, looks_then, ok_both}
use Rattle.script_jobs.proofs.stats.count_graph.Goals as goal

pub returns-in_err-look_at_meta-clause-err : goal.returns-in_err-look_at_meta-clause-err
returns-in_err-look_at_meta-clause-err g c = handed _ c.from_residual.result c.in_err-look_at_meta.ensures.err c.from_residual.ensures.1

pub returns-clause-goes : goal.returns-clause-goes
returns-clause-goes g c = goes_then g.met.S.Steps.comes_on c.in_ok-look_at_meta.ensures.there c.in_ok-look_at_meta.ensures.goes c.count_on.ensures.goes

pub returns-clause-ok : goal.returns-clause-ok
returns-clause-ok g c =
    let meta = c.in_ok-look_at_meta.ensures in
    ok_both c.count_on.result
    (λ counts looked exact. record {
      looked = looks_then meta.goes.stays meta.there meta.looked looked;
      exact = λ h o same.
          let none = between meta.looked.does.acts looked.does.acts same in
          exact h (meta.there (OfNodes h) o) (same ∙ sym none)
          (meta.exact h o none ∙ ap (λ (l : List Act). (after h l).blocks) (sym none)) ∙ ap (λ (l : List Act). counts_of (after h l)) none;
    }) c.count_on.ensures.looked c.count_on.ensures.exact

pub returns-clause-err : goal.returns-clause-err
returns-clause-err g c =
    let meta = c.in_ok-look_at_meta.ensures in
    err_as c.count_on.result (λ e ends. ended_then meta.goes.stays meta.there meta.looked ends) c.count_on.ensures.err
