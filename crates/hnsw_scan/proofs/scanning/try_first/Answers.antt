use Rattle.std.proofs.Common.{◌∙◌, [], ap, length}
use Rattle.vec_names.specs.declared.params.Params.{Params}
use Rattle.layer_search.specs.Telling.{OverSpots}
use Rattle.layer_search.proofs.Looks.{fails}
use Rattle.hnsw_scan.proofs.Spending.{batch_fails, ends_so, handed, unmade_fails}
use Rattle.hnsw_scan.proofs.scanning.try_first.Goals as goal

pub returns-in_err-told-clause-err : goal.returns-in_err-told-clause-err
returns-in_err-told-clause-err g c =
    let s0 = c.args.steps.now in
    fails c.from_residual-in_err-told.result
    (λ e is. unmade_fails (OverSpots (g.S.Steps.stands s0) (g.S.Steps.seen s0) 0 []) (g.S.Steps.desk s0) (g.S.Steps.seen s0)
    (length c.args.state.now.query) e c.in_err-told.field-0.0 is c.in_err-told.ensures.memory
    (c.in_ok-fits.ensures.ok ∙ ap (λ (p : Params). p.bits) c.params-params.ensures) c.requires.gates)
    c.from_residual-in_err-told.ensures.1

pub returns-in_err-answers-clause-err : goal.returns-in_err-answers-clause-err
returns-in_err-answers-clause-err g c =
    handed _ c.from_residual-in_err-answers.result
    (batch_fails (length c.args.state.now.query) c.in_err-answers.field-0.0
    (c.in_ok-fits.ensures.ok ∙ ap (λ (p : Params). p.bits) c.params-params.ensures) c.in_err-answers.ensures.err c.in_err-answers.ensures.freed)
    c.from_residual-in_err-answers.ensures.1

pub returns-clause-end : goal.returns-clause-end
returns-clause-end g c = ends_so c.is_empty-end.result c.in_ok-answers.answers c.is_empty-end.ensures
