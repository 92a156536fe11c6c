use Rattle.std.proofs.Common.{take}
use Rattle.std.specs.Prelude.{All}
use Rattle.page_bytes.specs.Content.{IsPage}
use Rattle.vec_recover.proofs.judging.have_bytes.Given as goal

-- the pages so far have bytes
abbrev pub invariant-loop-page : goal.invariant-loop-page
invariant-loop-page l = All IsPage (take l.page-index l.pages)
