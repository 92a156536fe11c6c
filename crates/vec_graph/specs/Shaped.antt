-- Shaped graphs: those that pages can hold.
use Rattle.std.specs.Prelude.{◌≡◌, ℕ, ◌<◌, ◌≤◌, true, [], length, Some, None}
use Rattle.index_sizes.specs.declared.limits.TheConstants.{MOST_BLOCKS, MOST_IDS}
use Rattle.index_sizes.specs.Sizes.{slots_of_level}
use Rattle.vec_names.specs.declared.tid.Tid.{Tid}
use Rattle.vec_names.specs.Levels.{most_level}
use Rattle.vec_graph.specs.declared.node.Node.{Node}
use Rattle.vec_graph.specs.declared.graph.Graph.{Graph}
use Rattle.vec_graph.specs.Graph.{node_at, HasLevel}

-- one node at a place
pub record IsShapedNode (m bits blocks : ℕ) (at : Tid) (n : Node) : Type 0 where
  pub from_1 : 1 ≤ at.block
  pub within : at.block < blocks
  pub list_from_1 : 1 ≤ n.list_at.block
  pub list_within : n.list_at.block < blocks
  pub as_many : length n.slots ≡ slots_of_level m n.level
  pub not_high : n.level ≤ most_level m
  pub version_from_1 : 1 ≤ n.version
  pub version_to_255 : n.version ≤ 255
  pub as_long : length n.bits ≡ bits
  pub few : length n.ids ≤ MOST_IDS
  pub none_if_deleted : n.deleted ≡ true → n.ids ≡ []

-- the entry point's node has the level that the graph says
abbrev pub HasEntryLevel : Graph → Type 0
HasEntryLevel g = (at : Tid) → g.entry ≡ Some at → HasLevel g at g.level

pub record IsShaped (g : Graph) : Type 0 where
  pub nodes : (at : Tid) (n : Node) → node_at g at ≡ Some n → IsShapedNode g.params.m g.params.bits g.blocks at n
  pub entry : HasEntryLevel g
  pub no_entry : g.entry ≡ None → g.level ≡ 0
  pub hint_from_1 : 1 ≤ g.hint
  pub hint_within : g.hint ≤ g.blocks
  pub blocks_from_1 : 1 ≤ g.blocks
  pub blocks_within : g.blocks ≤ MOST_BLOCKS
