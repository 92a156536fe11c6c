use Rattle.std.proofs.Common.{◌<◌, ◌+◌, ◌++◌, ◌∷◌, [], List, length, drop, ap, sym, ◌∙◌, append_assoc, arith}
use Rattle.std.specs.List.{filter_map}
use Rattle.ivf_graph.specs.Graph.{Row}
use Rattle.ivf_pages.specs.Standing.{row_in}
use Rattle.ivf_pages.proofs.EntryItems.{entries_more, rows_more, not_all}
use Rattle.ivf_pages.proofs.entry_rows.rows_on.Goals as goal

pub returns-in_default : goal.returns-in_default
returns-in_default c =
    let low : c.loop-i.i < length c.args.page.now.items = omega (arith, c.loop-i-test.true, c.count-i-end.ensures) in
    not_all c.args.params.now c.args.page.now.items c.loop-i.i low c.in_ok-row.field-0 c.in_ok-row.ensures c.in_default.is c.loop-i.invariant.0

pub loop-i-preserved : goal.loop-i-preserved
loop-i-preserved c =
    let p = c.args.params.now in
    let items = c.args.page.now.items in
    let low : c.loop-i.i < length items = omega (arith, c.loop-i-test.true, c.count-i-end.ensures) in
    let rest = filter_map (row_in p) (drop (c.loop-i.i + 1) items) in (
      c.loop-i.invariant.0 ∙ entries_more p items c.loop-i.i low c.in_ok-row.field-0 c.in_ok-row.ensures c.in-Some.row c.in-Some.is,
      c.loop-i.invariant.1 ∙ ap (λ (rows : List Row). c.loop-i.rows ++ rows) (rows_more p items c.loop-i.i low c.in_ok-row.field-0 c.in_ok-row.ensures c.in-Some.row c.in-Some.is)
          ∙ sym (append_assoc c.loop-i.rows (c.in-Some.row ∷ []) rest) ∙ ap (λ (rows : List Row). rows ++ rest) (sym c.in_ok-push.ensures.ok),
    )
