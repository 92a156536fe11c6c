use Rattle.std.proofs.Common.{◌≡◌, ◌+◌, ◌++◌, map, drop}
use Rattle.vec_steps.specs.Telling.{seen_told}
use Rattle.page_sets.specs.Telling.{element_shown, all_shown}
use Rattle.page_sets.proofs.page_nodes.fill_nodes.Given as goal

abbrev pub invariant-items : goal.invariant-items
invariant-items l =
    map seen_told l.nodes ++ all_shown (element_shown l.params l.block) (l.before + 1) (drop l.before l.page.items)
    ≡ map seen_told l.initial.nodes ++ all_shown (element_shown l.params l.block) 1 l.page.items
