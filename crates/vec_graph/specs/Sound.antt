-- Sound graphs: a search meets no deleted node, and no node in a layer above its level.
use Rattle.std.specs.Prelude.{◌≡◌, ℕ, ◌≤◌, Some}
use Rattle.vec_names.specs.declared.tid.Tid.{Tid}
use Rattle.vec_graph.specs.declared.node.Node.{Node}
use Rattle.vec_graph.specs.declared.graph.Graph.{Graph}
use Rattle.vec_graph.specs.Graph.{node_at, IsLiveAt, IsUndeletedAt, HasMember}

-- a place that is reached from one of the roots by following slots
pub data IsReachedFrom (g : Graph) (Root : Tid → Type 0) : Tid → Type 0 where
  from_root : (at : Tid) → Root at → IsReachedFrom g Root at
  through : (at : Tid) (layer : ℕ) (to : Tid) → IsReachedFrom g Root at → HasMember g at layer to → IsReachedFrom g Root to

-- the place holds a node that reaches up to the layer
pub record IsAsHigh (g : Graph) (at : Tid) (layer : ℕ) : Type 0 where
  pub node : Node
  pub stands : node_at g at ≡ Some node
  pub reaches : layer ≤ node.level

-- Each place that is reached from the roots holds a node that is not deleted, and each member of a layer of such a node
-- reaches up to that layer. A doomed node that is not reached may name anything.
pub record IsSoundFrom (g : Graph) (Root : Tid → Type 0) : Type 0 where
  pub not_deleted : (at : Tid) → IsReachedFrom g Root at → IsUndeletedAt g at
  pub high_enough : (at : Tid) (layer : ℕ) (to : Tid) → IsReachedFrom g Root at → HasMember g at layer to → IsAsHigh g to layer

-- the places where a search may begin: the entry point, and the live nodes
pub data IsRoot (g : Graph) : Tid → Type 0 where
  root_entry : (at : Tid) → g.entry ≡ Some at → IsRoot g at
  root_live : (at : Tid) → IsLiveAt g at 0 → IsRoot g at

abbrev pub IsSound : Graph → Type 0
IsSound g = IsSoundFrom g (IsRoot g)
