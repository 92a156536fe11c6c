use Rattle.std.proofs.Common.{◌+◌, ◌++◌, map, arith}
use Rattle.vec_steps.specs.Telling.{row_told}
use Rattle.page_sets.specs.Telling.{entry_shown, all_shown}
use Rattle.page_sets.proofs.Shows.{one_more}
use Rattle.page_sets.proofs.rows.fill_rows.Goals as goal

pub items-preserved : goal.items-preserved
items-preserved c =
    let show = entry_shown c.args.params.now in
    one_more show (c.items.before + 1) c.items.before c.args.page.now.items (map row_told c.items.rows) (map row_told c.add_row.new.rows)
    (map row_told c.args.rows.now ++ all_shown show 1 c.args.page.now.items) (omega (arith, c.items-test.true, c.count-before-end.ensures)) c.items.invariant
    (λ x is. c.in_ok-add_row.ensures x is)
