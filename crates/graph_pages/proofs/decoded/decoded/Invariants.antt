use Rattle.std.proofs.Common.{◌≡◌, length, map, take}
use Rattle.graph_pages.specs.Decoding.{items_on}
use Rattle.graph_pages.proofs.decoded.decoded.Given as goal

-- the pages so far are decoded
abbrev pub invariant-loop-page : goal.invariant-loop-page
invariant-loop-page l = l.items ≡ map (items_on l.params (length l.pages)) (take l.page-index l.pages)
