use Rattle.std.proofs.lemmas.Result.{err_from_is_err_and}
use Rattle.vec_tuples.specs.Reading.{rows}
use Rattle.vec_tuples.proofs.RowPlaces.{rows_go_on, rows_stop, rows_done, one_at_most}
use Rattle.vec_tuples.proofs.rows.rows.Goals as goal

pub returns-in_err-row : goal.returns-in_err-row
returns-in_err-row c =
    let p = err_from_is_err_and c.from_residual.result c.from_residual.ensures.1 in
    rw (p.1, p.2) (rows_stop c.places.ids.items c.places.shut 10 c.places.at c.places.rest.now (rows c.args.closed 10 c.args.bytes.now) c.places.invariant.1 c.in_err-row.field-0.0 c.places-test.true c.in_err-row.ensures)

pub places-preserved : goal.places-preserved
places-preserved c =
    rw (c.keep-shut.ensures.items, c.keep-shut.ensures.none) (
      one_at_most c.places.ids.items c.in_ok-row.row c.places.at c.places.invariant.0,
      rows_go_on c.places.ids.items c.places.shut 10 c.places.at c.places.rest.now (rows c.args.closed 10 c.args.bytes.now) c.places.invariant.1 c.in_ok-row.row c.in_ok-row.after.now c.places-test.true c.in_ok-row.ensures,
    )

pub returns : goal.returns
returns c = rows_done c.places.ids.items c.places.shut 10 c.places.at c.places.rest.now (rows c.args.closed 10 c.args.bytes.now) c.places.invariant.1 c.places-test.false
