use Rattle.std.proofs.Common.{◌++◌, ap, ◌∙◌, List}
use Rattle.vec_names.specs.declared.heap_id.HeapId.{HeapId}
use Rattle.layer_search.proofs.Looks.{ended_first, ended_memory, fails}
use Rattle.hnsw_scan.specs.Answering.{given_in, rows_at}
use Rattle.hnsw_scan.proofs.Again.{rows_fresh}
use Rattle.hnsw_scan.proofs.taking.take_one.Goals as goal

pub returns-in_err-put_told-clause-err : goal.returns-in_err-put_told-clause-err
returns-in_err-put_told-clause-err g c =
    fails c.from_residual-in_err-put_told.result (λ e is. ended_memory e is c.in_ok-look_again.ensures.ok) c.from_residual-in_err-put_told.ensures.1

pub returns-in_err-put_rows-clause-err : goal.returns-in_err-put_rows-clause-err
returns-in_err-put_rows-clause-err g c =
    fails c.from_residual-in_err-put_rows.result (λ e is. ended_first (g.S.Steps.seen c.args.steps.now) e is) c.from_residual-in_err-put_rows.ensures.1

pub returns-clause-ok : goal.returns-clause-ok
returns-clause-ok g c =
    let p = c.args.taken.now in
    rows_fresh (g.S.Steps.seen c.args.steps.now) c.args.trace.now.reads (g.S.Steps.desk c.args.steps.now).params.ops c.args.query.now p
    (given_in c.args.answers.now) (given_in c.put_rows.new.into) c.if-taken.false
    (c.in_ok-put_rows.ensures
    ∙ ap (λ (ids : List HeapId). given_in c.args.answers.now ++ rows_at p.0.at p.0.version p.0.dist ids) c.as_slice.ensures.value)
