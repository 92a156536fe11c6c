use Rattle.std.proofs.Common.{◌∙◌, ap, length}
use Rattle.vec_names.specs.declared.params.Params.{Params}
use Rattle.layer_search.proofs.Looks.{fails}
use Rattle.hnsw_scan.specs.Scanning.{OverScan}
use Rattle.hnsw_scan.proofs.Spending.{batch_fails, handed, unmade_fails}
use Rattle.hnsw_scan.proofs.scanning.try_next.Goals as goal

pub returns-in_err-told-clause-err : goal.returns-in_err-told-clause-err
returns-in_err-told-clause-err g c =
    let s0 = c.args.steps.now in
    fails c.from_residual-in_err-told.result
    (λ e is. unmade_fails (OverScan (g.S.Steps.stands s0) (g.S.Steps.seen s0) c.args.state.now) (g.S.Steps.desk s0) (g.S.Steps.seen s0)
    (length c.args.state.now.query) e c.in_err-told.field-0.0 is c.in_err-told.ensures.memory
    (c.in_ok-fits.ensures.ok ∙ ap (λ (p : Params). p.bits) c.params-params.ensures) c.requires.gates)
    c.from_residual-in_err-told.ensures.1

pub returns-in_err-given-clause-err : goal.returns-in_err-given-clause-err
returns-in_err-given-clause-err g c =
    handed _ c.from_residual-in_err-given.result
    (batch_fails (length c.args.state.now.query) c.in_err-given.field-0.0
    (c.in_ok-fits.ensures.ok ∙ ap (λ (p : Params). p.bits) c.params-params.ensures) c.in_err-given.ensures.err c.in_err-given.ensures.freed)
    c.from_residual-in_err-given.ensures.1
