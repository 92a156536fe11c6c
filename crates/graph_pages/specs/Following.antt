-- Which events of a graph follow on pages that stand for it: what is asked of the places and blocks that they name. What redo
-- itself asks of versions, states and lengths is no part of it.
use Rattle.std.specs.Prelude.{◌≡◌, ℕ, ◌+◌, ◌<◌, ◌≤◌, ◌⊎◌, min, max, ⊤, List, length, slice_get, Option, Some, None}
use Rattle.vec_names.specs.declared.tid.Tid.{Tid}
use Rattle.vec_history.specs.declared.event.Event.{Event}
use Rattle.vec_history.specs.declared.event.Event.TheVariants.{Put, Join, Link, Relist, Drop, Mark, Entry, Hint}
use Rattle.page_bytes.specs.Content.{Content}
use Rattle.vec_graph.specs.declared.node.Node.{Node}
use Rattle.vec_graph.specs.declared.graph.Graph.{Graph}
use Rattle.vec_graph.specs.Graph.{node_at, HasLevel}
use Rattle.graph_pages.specs.Standing.{item_in}
use Rattle.page_redo.specs.Growing.{blocks_after}

-- the places that the slots name are on so many blocks
abbrev pub AreBelow : ℕ → List (Option Tid) → Type 0
AreBelow blocks lists = (slot : ℕ) (to : Tid) → slice_get lists slot ≡ Some (Some to) → to.block < blocks

-- a node stands at the place, and its list at the other one
pub record HasList (g : Graph) (at list_at : Tid) : Type 0 where
  pub node : Node
  pub stands : node_at g at ≡ Some node
  pub listed : node.list_at ≡ list_at

-- of so many blocks the two are ones that there are or the next, or they are the next two
abbrev pub AreNextBlocks : ℕ → ℕ → ℕ → Type 0
AreNextBlocks count a b = (max a b ≤ count) ⊎ ((min a b ≡ count) × (max a b ≡ count + 1))

-- No item stands at the two places, and new blocks are the next ones. The version and the level have one byte each.
pub record AreNewPlaces (pages : List Content) (at list_at : Tid) (version level : ℕ) : Type 0 where
  pub none : item_in pages at ≡ None
  pub no_list : item_in pages list_at ≡ None
  pub next : AreNextBlocks (length pages) at.block list_at.block
  pub version_high : version ≤ 255
  pub level_high : level ≤ 255

-- A Put takes the places of a node or two new ones. An event of an index of lists never follows, and a passing one neither.
abbrev pub Follows : List Content → Graph → Event → Type 0
Follows pages g (Put at list_at version level id bits lists) =
    (HasList g at list_at ⊎ AreNewPlaces pages at list_at version level)
    × AreBelow (blocks_after (Put at list_at version level id bits lists) (length pages)) lists
Follows pages g (Join at version id) = ⊤
Follows pages g (Link at list_at version slot to) = HasList g at list_at × (to.block < g.blocks)
Follows pages g (Relist at list_at version lists) = HasList g at list_at × AreBelow g.blocks lists
Follows pages g (Drop at version gone) = ⊤
Follows pages g (Mark at list_at version) = HasList g at list_at
Follows pages g (Entry to level) = (at : Tid) → to ≡ Some at → HasLevel g at level
Follows pages g (Hint block) = (1 ≤ block) × (block ≤ g.blocks)
Follows pages g _ = ⊥
