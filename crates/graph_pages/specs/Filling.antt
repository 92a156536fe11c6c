-- How far a map has the nodes of the pages, as it is filled from the first place on.
use Rattle.std.specs.Prelude.{◌≡◌, ℕ, ◌&&◌, ◌||◌, ◌==◌, nat_le, nat_lt, Bool, List, Option, Some, None}
use Rattle.std.specs.FinMap.{FinMap, get, insert}
use Rattle.vec_names.specs.declared.tid.Tid.{Tid}
use Rattle.vec_names.specs.declared.params.Params.{Params}
use Rattle.vec_names.specs.Order.{tid_cmp}
use Rattle.page_bytes.specs.Content.{Content}
use Rattle.vec_graph.specs.declared.node.Node.{Node}
use Rattle.page_redo.specs.PageChanges.{if_so}
use Rattle.graph_pages.specs.Standing.{node_in}

-- a place on a lower block, or at no higher an offset of the block
abbrev pub is_passed : ℕ → ℕ → Tid → Bool
is_passed block off at = nat_lt at.block block || (at.block == block && nat_le at.off off)

-- The map has the nodes of the places passed, and no others.
abbrev pub IsFilledTo : Params → List Content → ℕ → ℕ → FinMap tid_cmp Node → Type 0
IsFilledTo p pages block off nodes = (at : Tid) → get nodes at ≡ if_so (is_passed block off at) (node_in p pages at)

abbrev pub with_node : FinMap tid_cmp Node → Tid → Option Node → FinMap tid_cmp Node
with_node nodes at None = nodes
with_node nodes at (Some n) = insert nodes at n
