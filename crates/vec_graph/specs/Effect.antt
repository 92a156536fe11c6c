-- What each event changes.
use Rattle.std.specs.Prelude.{ℕ, ◌+◌, max, ⊤, Bool, true, false, List, [], ◌∷◌, ◌++◌, take, length, replicate, slice_set, Option, Some, None}
use Rattle.std.specs.FinMap.{insert}
use Rattle.list_values.specs.Masks.{kept}
use Rattle.index_sizes.specs.Sizes.{next_version}
use Rattle.vec_names.specs.declared.tid.Tid.{Tid}
use Rattle.vec_names.specs.declared.heap_id.HeapId.{HeapId}
use Rattle.vec_history.specs.declared.event.Event.{Event}
use Rattle.vec_history.specs.declared.event.Event.TheVariants.{Put, Join, Link, Relist, Drop, Mark, Entry, Hint, IvfAdd, IvfGrow, IvfDrop, IvfHint, Gate, Ungate, Phase, VacuumEnd, Cancel, Settled, DiskFaulted}
use Rattle.vec_history.specs.declared.event.Act.{Act}
use Rattle.vec_graph.specs.declared.node.Node.{Node}
use Rattle.vec_graph.specs.declared.graph.Graph.{Graph}
use Rattle.vec_graph.specs.Graph.{node_at}

-- ---- of one node

abbrev pub joined : HeapId → Node → Node
joined id n = record n { ids = n.ids ++ id ∷ [] }

abbrev pub linked : ℕ → Tid → Node → Node
linked slot to n = record n { slots = slice_set n.slots slot (Some to) }

abbrev pub relisted : List (Option Tid) → Node → Node
relisted lists n = record n { slots = lists }

abbrev pub dropped : ℕ → Node → Node
dropped gone n = record n { ids = kept gone n.ids }

-- a deleted node keeps its level and its places, and the lengths of its bits and slots
abbrev pub marked : ℕ → Node → Node
marked wrap n = record n {
  version = next_version wrap n.version;
  deleted = true;
  bits = replicate (length n.bits) false;
  ids = [];
  slots = replicate (length n.slots) None;
}

-- ---- of the graph

abbrev pub with_node : Graph → Tid → Node → Graph
with_node g at n = record g { nodes = insert g.nodes at n }

-- the graph with the node at a place changed; where none stands, as it is
abbrev pub changed_from : Graph → Tid → (Node → Node) → Option Node → Graph
changed_from g at change None = g
changed_from g at change (Some n) = with_node g at (change n)

abbrev pub changed : Graph → Tid → (Node → Node) → Graph
changed g at change = changed_from g at change (node_at g at)

-- the number of blocks where also those of a new node stand
abbrev pub blocks_with : Graph → Tid → Tid → ℕ
blocks_with g at list_at = max g.blocks (max (at.block + 1) (list_at.block + 1))

-- what a Put brings
pub record NewNode : Type 0 where
  pub at : Tid
  pub list_at : Tid
  pub version : ℕ
  pub level : ℕ
  pub id : HeapId
  pub bits : List Bool
  pub lists : List (Option Tid)

-- the Put that brings it
abbrev pub put_of : NewNode → Event
put_of new = Put new.at new.list_at new.version new.level new.id new.bits new.lists

-- the new node, which has one id
abbrev pub node_of : NewNode → Node
node_of new = record {
  level = new.level;
  version = new.version;
  deleted = false;
  bits = new.bits;
  ids = new.id ∷ [];
  list_at = new.list_at;
  slots = new.lists;
}

-- the graph with a new node
abbrev pub with_new : Graph → NewNode → Graph
with_new g new = record g {
  nodes = insert g.nodes new.at (node_of new);
  blocks = blocks_with g new.at new.list_at;
}

-- The graph after an event. A passing event leaves it as it is, and so does an event of an index of lists.
abbrev pub effect : ℕ → Event → Graph → Graph
effect wrap (Put at list_at version level id bits lists) g =
    with_new g (record { at = at; list_at = list_at; version = version; level = level; id = id; bits = bits; lists = lists })
effect wrap (Join at version id) g = changed g at (joined id)
effect wrap (Link at list_at version slot to) g = changed g at (linked slot to)
effect wrap (Relist at list_at version lists) g = changed g at (relisted lists)
effect wrap (Drop at version gone) g = changed g at (dropped gone)
effect wrap (Mark at list_at version) g = changed g at (marked wrap)
effect wrap (Entry to level) g = record g { entry = to; level = level }
effect wrap (Hint block) g = record g { hint = block }
effect wrap (IvfAdd block id bits) g = g
effect wrap (IvfGrow list last block id bits) g = g
effect wrap (IvfDrop block gone) g = g
effect wrap (IvfHint list block) g = g
effect wrap (Gate gate hold) g = g
effect wrap (Ungate gate) g = g
effect wrap (Phase stage) g = g
effect wrap VacuumEnd g = g
effect wrap (Cancel stage) g = g
effect wrap (Settled upto) g = g
effect wrap (DiskFaulted count) g = g

-- the events that change which rows a live node has
abbrev pub AreIdsChanged : Event → Type 0
AreIdsChanged (Put at list_at version level id bits lists) = ⊤
AreIdsChanged (Join at version id) = ⊤
AreIdsChanged (Drop at version gone) = ⊤
AreIdsChanged _ = ⊥

-- ---- of a history

-- the graph after these acts. Versions wrap at 255: only events that an older form of the log holds wrap before
abbrev pub after : Graph → List Act → Graph
after g [] = g
after g (a ∷ acts) = after (effect 255 a.event g) acts

-- the graph after the first n acts
abbrev pub state_after : Graph → List Act → ℕ → Graph
state_after base acts n = after base (take n acts)
