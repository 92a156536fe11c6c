use Rattle.std.proofs.Common.{◌≤◌, ◌+◌, ℕ}
use Rattle.page_redo.specs.Growing.{fresh_page}
use Rattle.page_sets.specs.Committing.{IsExtended}
use Rattle.page_sets.proofs.doing.extend.Given as goal

-- fresh pages up to here, and room for the others
abbrev pub invariant-loop-block : goal.invariant-loop-block
invariant-loop-block g l =
    IsExtended (g.P.PageSet.held l.initial.pages) (g.P.PageSet.held l.pages) l.blocks l.block (fresh_page l.kind)
    × (l.upto ≤ l.block + g.P.PageSet.spare l.pages)
    × g.P.PageSet.may_add l.pages l.block
    × (l.blocks ≤ l.block)
