use Rattle.std.proofs.Common.{◌≡◌, map, take}
use Rattle.graph_pages.specs.Decoding.{item_of}
use Rattle.graph_pages.proofs.decoded.items_on.Given as goal

-- the items so far are decoded
abbrev pub invariant-loop-i : goal.invariant-loop-i
invariant-loop-i l = l.items ≡ map (item_of l.params l.blocks) (take l.i l.page.items)
