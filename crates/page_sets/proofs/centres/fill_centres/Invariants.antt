use Rattle.std.proofs.Common.{◌≡◌, ◌+◌, ◌++◌, map, drop}
use Rattle.vec_steps.specs.Telling.{centre_told}
use Rattle.page_sets.specs.Telling.{centre_shown, all_shown}
use Rattle.page_sets.proofs.centres.fill_centres.Given as goal

abbrev pub invariant-items : goal.invariant-items
invariant-items l =
    map centre_told l.centres ++ all_shown (centre_shown l.params) (l.from + l.before) (drop l.before l.page.items)
    ≡ map centre_told l.initial.centres ++ all_shown (centre_shown l.params) l.from l.page.items
