-- What a call does, in order: looks, each with what it told, and changes that are asked for, each with its word; and when these
-- happened in a history. Room that is reserved in the log is no part of it: it is in no state, and makes no act.
use Rattle.std.specs.Prelude.{◌≡◌, ℕ, ◌+◌, ◌-◌, ◌*◌, ◌≤◌, ◌==◌, ◌||◌, ◌&&◌, not, nat_lt, nat_le, if◌then◌else◌, ⊤, Bool, true, false, List, [], ◌∷◌, ◌++◌, map, filter, take, drop, length, slice_get, Option, Some, None}
use Rattle.std.specs.Ordering.{eq_by_cmp}
use Rattle.index_sizes.specs.declared.limits.TheConstants.{MOST_BLOCKS, MOST_IDS}
use Rattle.vec_names.specs.declared.tid.Tid.{Tid}
use Rattle.vec_names.specs.declared.heap_id.HeapId.{HeapId}
use Rattle.vec_names.specs.Order.{tid_cmp}
use Rattle.vec_history.specs.declared.event.Event.{Event}
use Rattle.vec_history.specs.declared.event.Event.TheVariants as event
use Rattle.vec_history.specs.declared.event.Act.{Act}
use Rattle.vec_history.specs.declared.gate.Gate.{Gate}
use Rattle.vec_history.specs.declared.gate.Hold.{Hold}
use Rattle.vec_history.specs.Acts.{IsActAt, IsRising}
use Rattle.vec_graph.specs.declared.place.Place.{Place}
use Rattle.vec_graph.specs.declared.node.Node.{Node}
use Rattle.vec_graph.specs.declared.graph.Graph.{Graph}
use Rattle.vec_graph.specs.Graph.{node_at, layer_slots}
use Rattle.vec_graph.specs.Places.{place_on, new_place, new_blocks}
use Rattle.vec_graph.specs.Effect.{state_after}
use Rattle.graph_search.specs.Reads.{Look, Answer, answer_of}

-- ---- changes that are asked for, and their words

-- a new node, as it is to be put
pub record NewNode : Type 0 where
  pub level : ℕ
  pub id : HeapId
  pub bits : List Bool
  pub slots : List (Option Tid)

-- A node takes one more id; a new node is put on a block, or on new blocks; a node names another in a slot of a layer, which was read
-- as `held`; the entry point; the hint; a gate is taken, and released.
pub data Change : Type 0 where
  Joins : (at : Tid) (version : ℕ) (id : HeapId) → Change
  PutsOn : (block : ℕ) (node : NewNode) → Change
  PutsNew : (node : NewNode) → Change
  Links : (at list_at : Tid) (level version layer slot : ℕ) (held : Option Tid) (to : Tid) → Change
  Enters : (to : Tid) (level : ℕ) → Change
  Hints : (block : ℕ) → Change
  Takes : (gate : Gate) (hold : Hold) → Change
  Releases : (gate : Gate) → Change

-- done; done, with the place that a new node got; and why it was not done
pub data Reply : Type 0 where
  Done : Reply
  Placed : (place : Place) → Reply
  NoRoom : Reply
  Full : Reply
  NotJoined : Reply
  Stale : Reply
  Changed : Reply

-- one step: a look with what it told, or a change that is asked for with its word
pub data Deed : Type 0 where
  looked : (look : Look) (told : Answer) → Deed
  asked : (change : Change) (reply : Reply) → Deed

abbrev pub looks_of : List (Look × Answer) → List Deed
looks_of reads = map (λ r. looked r.0 r.1) reads

-- ---- the word that a graph gives

-- it is not as it was read: deleted, or of another version
abbrev pub is_stale : Node → ℕ → Bool
is_stale n version = n.deleted || not (n.version == version)

abbrev pub join_reply : Option Node → ℕ → Reply
join_reply None version = Stale
join_reply (Some n) version =
    if is_stale n version then Stale else if nat_le 1 (length n.ids) && nat_lt (length n.ids) MOST_IDS then Done else NotJoined

abbrev pub is_same_slot : Option Tid → Option Tid → Bool
is_same_slot None None = true
is_same_slot None (Some b) = false
is_same_slot (Some a) None = false
is_same_slot (Some a) (Some b) = eq_by_cmp tid_cmp a b

abbrev pub is_still : Option (Option Tid) → Option Tid → Bool
is_still None held = false
is_still (Some now) held = is_same_slot now held

abbrev pub link_reply : ℕ → Option Node → ℕ → ℕ → ℕ → Option Tid → Reply
link_reply m None version layer slot held = Stale
link_reply m (Some n) version layer slot held =
    if is_stale n version then Stale
    else if is_still (slice_get (layer_slots m n.level layer n.slots) slot) held then Done else Changed

-- the node at a place holds this in a slot of a layer
pub record HoldsInSlot (g : Graph) (at : Tid) (layer slot : ℕ) (held : Option Tid) : Type 0 where
  pub node : Node
  pub stands : node_at g at ≡ Some node
  pub holds : slice_get (layer_slots g.params.m node.level layer node.slots) slot ≡ Some held

abbrev pub place_reply : Option Place → Reply
place_reply None = NoRoom
place_reply (Some place) = Placed place

-- The word to a change, by the graph that it is asked of. Gates, the entry point and the hint are always done: a desk waits for a gate.
abbrev pub reply_of : Graph → Change → Reply
reply_of g (Joins at version id) = join_reply (node_at g at) version
reply_of g (PutsOn block node) = place_reply (place_on g block node.level)
reply_of g (PutsNew node) = if nat_le (g.blocks + new_blocks g node.level) MOST_BLOCKS then place_reply (new_place g node.level) else Full
reply_of g (Links at list_at level version layer slot held to) = link_reply g.params.m (node_at g at) version layer slot held
reply_of g (Enters to level) = Done
reply_of g (Hints block) = Done
reply_of g (Takes gate hold) = Done
reply_of g (Releases gate) = Done

-- ---- the events of deeds

-- the number of a slot of a layer among all the slots of a node of a level, where the highest layer comes first
abbrev pub slot_in : ℕ → ℕ → ℕ → ℕ → ℕ
slot_in m level layer slot = (level - layer) * m + slot

abbrev pub put_event : NewNode → Place → Event
put_event n p = event.Put p.at p.list_at p.version n.level n.id n.bits n.slots

abbrev pub done_events : ℕ → Change → List Event
done_events m (Joins at version id) = event.Join at version id ∷ []
done_events m (PutsOn block node) = []
done_events m (PutsNew node) = []
done_events m (Links at list_at level version layer slot held to) = event.Link at list_at version (slot_in m level layer slot) to ∷ []
done_events m (Enters to level) = event.Entry (Some to) level ∷ []
done_events m (Hints block) = event.Hint block ∷ []
done_events m (Takes gate hold) = event.Gate gate hold ∷ []
done_events m (Releases gate) = event.Ungate gate ∷ []

abbrev pub placed_events : Change → Place → List Event
placed_events (Joins at version id) place = []
placed_events (PutsOn block node) place = put_event node place ∷ []
placed_events (PutsNew node) place = put_event node place ∷ []
placed_events (Links at list_at level version layer slot held to) place = []
placed_events (Enters to level) place = []
placed_events (Hints block) place = []
placed_events (Takes gate hold) place = []
placed_events (Releases gate) place = []

-- one event where the change was done, and else none
abbrev pub reply_events : ℕ → Change → Reply → List Event
reply_events m change Done = done_events m change
reply_events m change (Placed place) = placed_events change place
reply_events m change NoRoom = []
reply_events m change Full = []
reply_events m change NotJoined = []
reply_events m change Stale = []
reply_events m change Changed = []

abbrev pub deed_events : ℕ → Deed → List Event
deed_events m (looked look told) = []
deed_events m (asked change reply) = reply_events m change reply

-- the events that deeds make in an index with this m
abbrev pub events_of : ℕ → List Deed → List Event
events_of m [] = []
events_of m (d ∷ deeds) = deed_events m d ++ events_of m deeds

abbrev pub one_link : Event → ℕ
one_link (event.Link at list_at version slot to) = 1
one_link _ = 0

abbrev pub links_in : List Event → ℕ
links_in [] = 0
links_in (e ∷ events) = one_link e + links_in events

-- the number of links that deeds make
abbrev pub links_made : ℕ → List Deed → ℕ
links_made m deeds = links_in (events_of m deeds)

-- whether an event gives the index a row
abbrev pub is_of_row : Event → Bool
is_of_row (event.Put at list_at version level id bits lists) = true
is_of_row (event.Join at version id) = true
is_of_row _ = false

-- the events of deeds that give the index a row
abbrev pub rows_made : ℕ → List Deed → List Event
rows_made m deeds = filter is_of_row (events_of m deeds)

-- ---- deeds of a history

-- the act of this number is the one event, if there is one
abbrev pub IsMadeAt : List Act → ℕ → ℕ → List Event → Type 0
IsMadeAt acts desk n [] = ⊤
IsMadeAt acts desk n (e ∷ events) = IsActAt acts n desk e

-- a look was answered, and a change got its word, by the state at the position; the event of a change that was done is the desk's
-- act just there
abbrev pub IsDoneAt : Graph → List Act → ℕ → ℕ → Deed → Type 0
IsDoneAt base acts desk n (looked look told) = told ≡ answer_of (state_after base acts n) look
IsDoneAt base acts desk n (asked change reply) =
    (reply ≡ reply_of (state_after base acts n) change) × IsMadeAt acts desk n (reply_events base.params.m change reply)

-- each deed was done at its own position, which the history reaches
abbrev pub AreDoneAt : Graph → List Act → ℕ → List ℕ → List Deed → Type 0
AreDoneAt base acts desk [] [] = ⊤
AreDoneAt base acts desk [] (d ∷ deeds) = ⊥
AreDoneAt base acts desk (n ∷ positions) [] = ⊥
AreDoneAt base acts desk (n ∷ positions) (d ∷ deeds) =
    ((n ≤ length acts) × IsDoneAt base acts desk n d) × AreDoneAt base acts desk positions deeds

-- The change got this word by the state at the position of this number; and where it was done its event is the desk's act just there.
pub record GotItsWord (base : Graph) (acts : List Act) (desk : ℕ) (positions : List ℕ) (number : ℕ) (change : Change) (reply : Reply)
    : Type 0 where
  pub position : ℕ
  pub stands : slice_get positions number ≡ Some position
  pub reached : position ≤ length acts
  pub word : reply ≡ reply_of (state_after base acts position) change
  pub made : IsMadeAt acts desk position (reply_events base.params.m change reply)

-- the events that a desk made among these acts
abbrev pub own_events : ℕ → List Act → List Event
own_events desk acts = map (λ a. a.event) (filter (λ a. a.desk == desk) acts)

-- A desk did these deeds, and nothing else, between two positions of the history: at positions that do not fall.
pub record DidBetween (base : Graph) (acts : List Act) (desk low high : ℕ) (deeds : List Deed) : Type 0 where
  pub positions : List ℕ
  pub rising : IsRising low positions high
  pub done : AreDoneAt base acts desk positions deeds
  pub all_own : own_events desk (take (high - low) (drop low acts)) ≡ events_of base.params.m deeds
