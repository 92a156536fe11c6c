use Rattle.std.proofs.Common.{◌≡◌, ◌≤◌, true}
use Rattle.vec_names.specs.declared.tid.Tid.{Tid}
use Rattle.graph_pages.specs.Standing.{is_node_item}
use Rattle.graph_pages.proofs.broken_blocks.are_node_items.Given as goal

-- so far each item is that of a node
abbrev pub invariant-loop-i : goal.invariant-loop-i
invariant-loop-i l = (at : Tid) → at.block ≡ l.block → at.off ≤ l.i → is_node_item l.params l.pages at ≡ true
