use Rattle.std.proofs.Common.{◌∙◌, ap, sym}
use Rattle.vec_names.specs.declared.params.Params.{Params}
use Rattle.hnsw_insert.proofs.Stopped.{handed}
use Rattle.script_jobs.proofs.Batches.{search_fails}
use Rattle.script_jobs.proofs.searching.search_rows.Goals as goal

pub returns-in_err-findings-clause-err : goal.returns-in_err-findings-clause-err
returns-in_err-findings-clause-err g c =
    handed _ c.from_residual.result
    (search_fails c.args.bits.now c.args.limit c.args.ef c.args.further c.in-Some.plan c.in_err-findings.field-0.0 c.in-Some.ensures
    (sym c.count.ensures.count ∙ c.if-count-params.false ∙ ap (λ (p : Params). p.bits) c.params-params.ensures) c.in_err-findings.ensures.err)
    c.from_residual.ensures.1
