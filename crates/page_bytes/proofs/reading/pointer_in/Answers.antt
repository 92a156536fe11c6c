use Rattle.std.proofs.lemmas.Result.{err_from_is_err_and}
use Rattle.page_bytes.proofs.Readers.{pointer_bad_low, pointer_bad_high, pointer_found}
use Rattle.page_bytes.proofs.reading.pointer_in.Goals as goal

pub returns-in_err-low : goal.returns-in_err-low
returns-in_err-low c =
    let p = err_from_is_err_and c.from_residual.result c.from_residual.ensures.1 in
    rw (p.1, p.2) (pointer_bad_low c.args.least c.args.most c.args.top c.args.bytes.now c.args.at _ c.in_err-low.ensures)

pub returns-in_err-half_in : goal.returns-in_err-half_in
returns-in_err-half_in c =
    let p = err_from_is_err_and c.from_residual-in_err-half_in.result c.from_residual-in_err-half_in.ensures.1 in
    rw (p.1, p.2) (pointer_bad_high c.args.least c.args.most c.args.top c.in_ok-low.low c.args.bytes.now c.args.at _ c.in_ok-low.ensures c.in_err-half_in.ensures)

pub returns : goal.returns
returns c =
    pointer_found c.args.least c.args.most c.args.top c.in_ok-low.low c.in_ok-half_in.field-0 c.args.bytes.now c.args.at c.requires.allows c.in_ok-low.ensures c.in_ok-half_in.ensures
