use Rattle.std.proofs.Common.{◌≡◌, ◌-◌, ◌++◌, replicate}
use Rattle.page_redo.specs.Growing.{fresh_page, new_kind}
use Rattle.vec_recover.proofs.redoing.extend.Given as goal

-- fresh pages up to here
abbrev pub invariant-loop : goal.invariant-loop
invariant-loop l = l.pages.items ≡ l.fn.pages.items ++ replicate (l.counter - l.from) (fresh_page (new_kind l.event))
