use Rattle.std.proofs.Common.{◌≡◌, drop}
use Rattle.page_redo.specs.PageChanges.{rises}
use Rattle.page_redo.proofs.list_pages.rise.Given as goal

abbrev pub invariant-offsets : goal.invariant-offsets
invariant-offsets l = rises l.low l.count (drop l.off-index l.gone) ≡ rises 0 l.count l.gone
