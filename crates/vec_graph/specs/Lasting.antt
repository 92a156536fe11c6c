-- What lasts of a node between two positions of a history.
use Rattle.std.specs.Prelude.{◌≡◌, ◌++◌, ◌⊎◌, false, List, Some}
use Rattle.vec_names.specs.declared.tid.Tid.{Tid}
use Rattle.vec_names.specs.declared.heap_id.HeapId.{HeapId}
use Rattle.vec_history.specs.declared.event.Event.{Event}
use Rattle.vec_history.specs.declared.event.Event.TheVariants as event
use Rattle.vec_graph.specs.declared.node.Node.{Node}
use Rattle.vec_graph.specs.declared.graph.Graph.{Graph}
use Rattle.vec_graph.specs.Graph.{node_at}

-- the event marks the node at this place
abbrev pub IsMarkAt : Tid → Event → Type 0
IsMarkAt q (event.Mark at list_at version) = at ≡ q
IsMarkAt q _ = ⊥

-- ids of the node at this place go
abbrev pub IsDropAt : Tid → Event → Type 0
IsDropAt q (event.Drop at version gone) = at ≡ q
IsDropAt q _ = ⊥

-- a node that is not deleted and is as this one was, apart from its ids and its slots
pub record IsSame (was now : Node) : Type 0 where
  pub level : now.level ≡ was.level
  pub version : now.version ≡ was.version
  pub list_at : now.list_at ≡ was.list_at
  pub bits : now.bits ≡ was.bits
  pub not_deleted : now.deleted ≡ false

pub record IsSameAt (g : Graph) (at : Tid) (was : Node) : Type 0 where
  pub node : Node
  pub stands : node_at g at ≡ Some node
  pub same : IsSame was node

-- the ids are these and perhaps more behind them
pub record HasIdsAt (g : Graph) (at : Tid) (ids : List HeapId) : Type 0 where
  pub node : Node
  pub stands : node_at g at ≡ Some node
  pub not_deleted : node.deleted ≡ false
  pub more : List HeapId
  pub front : node.ids ≡ ids ++ more

-- the act ends what an id's number in a node says: it marks the node, or takes ids from it
abbrev pub IsIdsEndAt : Tid → Event → Type 0
IsIdsEndAt at e = IsMarkAt at e ⊎ IsDropAt at e
