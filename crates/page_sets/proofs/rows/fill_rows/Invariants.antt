use Rattle.std.proofs.Common.{◌≡◌, ◌+◌, ◌++◌, map, drop}
use Rattle.vec_steps.specs.Telling.{row_told}
use Rattle.page_sets.specs.Telling.{entry_shown, all_shown}
use Rattle.page_sets.proofs.rows.fill_rows.Given as goal

abbrev pub invariant-items : goal.invariant-items
invariant-items l =
    map row_told l.rows ++ all_shown (entry_shown l.params) (l.before + 1) (drop l.before l.page.items)
    ≡ map row_told l.initial.rows ++ all_shown (entry_shown l.params) 1 l.page.items
