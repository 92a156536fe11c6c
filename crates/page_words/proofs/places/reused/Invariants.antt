use Rattle.std.proofs.Common.{◌≡◌, ◌+◌, drop}
use Rattle.page_words.specs.Placing.{reused_from}
use Rattle.page_words.proofs.places.reused.Given as goal

abbrev pub invariant-items : goal.invariant-items
invariant-items l =
    reused_from l.params l.ask.block l.ask.level (l.before + 1) (drop l.before l.page.items)
    ≡ reused_from l.params l.ask.block l.ask.level 1 l.page.items
