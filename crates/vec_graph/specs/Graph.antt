-- The index graph: its nodes, which of them are live or doomed, and the members of their layers.
use Rattle.std.specs.Prelude.{◌≡◌, ℕ, ◌*◌, ◌-◌, ◌/◌, ◌≤◌, ◌≢◌, ◌==◌, if◌then◌else◌, Bool, false, List, [], take, drop, length, map, slice_get, flat_map, Option, Some}
use Rattle.std.specs.FinMap.{get, values}
use Rattle.index_sizes.specs.Sizes.{slots_of_level}
use Rattle.vec_names.specs.declared.tid.Tid.{Tid}
use Rattle.vec_names.specs.declared.heap_id.HeapId.{HeapId}
use Rattle.vec_graph.specs.declared.node.Node.{Node}
use Rattle.vec_graph.specs.declared.graph.Graph.{Graph}

-- ---- nodes

-- the node that stands at a place, deleted or not
abbrev pub node_at : Graph → Tid → Option Node
node_at g at = get g.nodes at

-- a live node is not deleted, and rows of the table have its value
pub record IsLive (n : Node) : Type 0 where
  pub not_deleted : n.deleted ≡ false
  pub has_ids : n.ids ≢ []

-- a doomed node is not deleted, and no row has its value any more
pub record IsDoomed (n : Node) : Type 0 where
  pub not_deleted : n.deleted ≡ false
  pub no_ids : n.ids ≡ []

-- a node stands at the place that is live, and reaches up to the layer
pub record IsLiveAt (g : Graph) (at : Tid) (layer : ℕ) : Type 0 where
  pub node : Node
  pub stands : node_at g at ≡ Some node
  pub live : IsLive node
  pub reaches : layer ≤ node.level

pub record IsDoomedAt (g : Graph) (at : Tid) : Type 0 where
  pub node : Node
  pub stands : node_at g at ≡ Some node
  pub doomed : IsDoomed node

pub record IsUndeletedAt (g : Graph) (at : Tid) : Type 0 where
  pub node : Node
  pub stands : node_at g at ≡ Some node
  pub not_deleted : node.deleted ≡ false

-- a node of this level stands at the place
pub record HasLevel (g : Graph) (at : Tid) (level : ℕ) : Type 0 where
  pub node : Node
  pub stands : node_at g at ≡ Some node
  pub of_level : node.level ≡ level

-- ---- layers

-- each node has the slots of its level
abbrev pub HasAllSlots : Graph → Type 0
HasAllSlots g = (at : Tid) (n : Node) → node_at g at ≡ Some n → length n.slots ≡ slots_of_level g.params.m n.level

-- the layer of the slot of this number, counted from 0: the highest layer comes first, and the lowest has what is left
abbrev pub slot_layer : ℕ → ℕ → ℕ → ℕ
slot_layer m level slot = level - slot / m

-- the slots of one layer
abbrev pub layer_slots : ℕ → ℕ → ℕ → List (Option Tid) → List (Option Tid)
layer_slots m level layer slots = if layer == 0 then drop (level * m) slots else take m (drop ((level - layer) * m) slots)

-- a place is a member of a layer where a slot of that layer names it
pub record IsMember (m level : ℕ) (slots : List (Option Tid)) (layer : ℕ) (to : Tid) : Type 0 where
  pub slot : ℕ
  pub names : slice_get slots slot ≡ Some (Some to)
  pub within : slot_layer m level slot ≡ layer

-- the node at a place has this member in this layer
pub record HasMember (g : Graph) (at : Tid) (layer : ℕ) (to : Tid) : Type 0 where
  pub node : Node
  pub stands : node_at g at ≡ Some node
  pub member : IsMember g.params.m node.level node.slots layer to

-- ---- what the index answers from

-- the rows that have a node's value, each with the value
abbrev pub rows_of : Node → List (HeapId × List Bool)
rows_of n = if n.deleted then [] else map (λ id. (id, n.bits)) n.ids

-- the entries: the rows of all live nodes, in the order of their places. Compared as a bag
abbrev pub entries : Graph → List (HeapId × List Bool)
entries g = flat_map rows_of (values g.nodes)
