-- What one step does: an ask with what it told. What an index says to each step, and the event that each makes.
use Rattle.std.specs.Prelude.{◌≡◌, ℕ, ◌+◌, ⊤, nat_le, nat_lt, if◌then◌else◌, Bool, List, [], ◌∷◌, length, Option, Some, None}
use Rattle.index_sizes.specs.declared.limits.TheConstants.{MOST_BLOCKS, PAGE_ROOM}
use Rattle.list_values.specs.Masks.{kept}
use Rattle.vec_names.specs.declared.tid.Tid.{Tid}
use Rattle.vec_names.specs.declared.heap_id.HeapId.{HeapId}
use Rattle.vec_names.specs.declared.params.Params.{Params}
use Rattle.vec_names.specs.Places.{tid_of}
use Rattle.vec_history.specs.declared.event.Event.{Event}
use Rattle.vec_history.specs.declared.event.Event.TheVariants as event
use Rattle.vec_history.specs.declared.event.Act.{Act}
use Rattle.vec_history.specs.declared.stage.Stage.{Stage}
use Rattle.vec_graph.specs.declared.node.Node.{Node}
use Rattle.vec_graph.specs.declared.graph.Graph.{Graph}
use Rattle.vec_graph.specs.Graph.{node_at}
use Rattle.vec_graph.specs.Places.{new_blocks}
use Rattle.vec_graph.specs.Effect as nodes
use Rattle.vec_graph.specs.Rules.{IsVacuumEndAllowed, IsCancelAllowed}
use Rattle.ivf_graph.specs.declared.graph.IvfGraph.{IvfGraph}
use Rattle.ivf_graph.specs.Graph.{Row, rows_on, row_need, taken}
use Rattle.ivf_graph.specs.Looks.{next_on, told_of}
use Rattle.ivf_graph.specs.Looks as list
use Rattle.ivf_graph.specs.Effect as lists
use Rattle.graph_search.specs.Reads.{answer_of}
use Rattle.graph_search.specs.Deeds.{NewNode, Deed, looked, asked, Change, Reply, Takes, Releases, PutsNew, reply_of, is_stale, deed_events}
use Rattle.graph_search.specs.Deeds as deed
use Rattle.vec_steps.specs.Index.{Index, OfNodes, OfLists}

-- ---- changes beside those of an insert

-- Of a vacuum of a graph: a node's slots are written anew; rows of a node go; a node is deleted; there is no entry point any more; a
-- pass begins; the vacuum ends.
pub data Cleaning : Type 0 where
  Relists : (at list_at : Tid) (version : ℕ) (slots : List (Option Tid)) → Cleaning
  Drops : (at : Tid) (version gone : ℕ) → Cleaning
  Marks : (at list_at : Tid) (version : ℕ) → Cleaning
  Empties : (level : ℕ) → Cleaning
  Begins : (stage : Stage) → Cleaning
  Ends : Cleaning

-- done; done, with the number of rows left; the node is not as it was read; the vacuum ended done, or in this pass
pub data Cleaned : Type 0 where
  Cleared : Cleaned
  Left : (ids : ℕ) → Cleaned
  Outdated : Cleaned
  Ended : Cleaned
  Cancelled : (stage : Stage) → Cleaned

-- Of an index of lists: a row comes on a block; a list grows by a block with a row; rows of a block go; a list aims at a block.
pub data Placing : Type 0 where
  Adds : (block : ℕ) (id : HeapId) (bits : List Bool) → Placing
  Extends : (list last : ℕ) (id : HeapId) (bits : List Bool) → Placing
  Cuts : (block : ℕ) (gone : List ℕ) → Placing
  Aims : (list block : ℕ) → Placing

-- done; done, and the row came here; the block has no room, and this is behind it; the list goes on behind the block; no block is left
pub data Placed : Type 0 where
  Came : Placed
  CameAt : (at : Tid) → Placed
  HasNoRoom : (next : Option ℕ) → Placed
  GoesOn : (next : ℕ) → Placed
  NoBlockLeft : Placed

-- ---- steps

-- A deed of a search or an insert, or a gate; a node for which the index has no blocks left, with how many it has and how many are
-- needed; a change of a vacuum; a look at lists, and a change of them; all was settled up to here; the disks failed so often.
pub data Step : Type 0 where
  did : (deed : Deed) → Step
  overfull : (node : NewNode) (blocks need : ℕ) → Step
  cleaned : (change : Cleaning) (reply : Cleaned) → Step
  viewed : (look : list.Look) (told : Option list.Answer) → Step
  placed : (change : Placing) (reply : Placed) → Step
  settled : (upto : ℕ) → Step
  faulted : (count : ℕ) → Step

-- ---- the words of an index

abbrev pub clear_reply : Option Node → ℕ → Cleaned
clear_reply None version = Outdated
clear_reply (Some n) version = if is_stale n version then Outdated else Cleared

abbrev pub drop_reply : Option Node → ℕ → ℕ → Cleaned
drop_reply None version gone = Outdated
drop_reply (Some n) version gone = if is_stale n version then Outdated else Left (length (kept gone n.ids))

-- What the graph at the end of these acts says to a change of a vacuum. How a vacuum ends, the rules say: done where they allow that,
-- and else in the pass that stands.
abbrev pub SaysCleaned : Graph → List Act → ℕ → Cleaning → Cleaned → Type 0
SaysCleaned base acts desk (Relists at list_at version slots) reply = reply ≡ clear_reply (node_at (nodes.after base acts) at) version
SaysCleaned base acts desk (Drops at version gone) reply = reply ≡ drop_reply (node_at (nodes.after base acts) at) version gone
SaysCleaned base acts desk (Marks at list_at version) reply = reply ≡ clear_reply (node_at (nodes.after base acts) at) version
SaysCleaned base acts desk (Empties level) reply = reply ≡ Cleared
SaysCleaned base acts desk (Begins stage) reply = reply ≡ Cleared
SaysCleaned base acts desk Ends Ended = IsVacuumEndAllowed base acts desk
SaysCleaned base acts desk Ends (Cancelled stage) = IsCancelAllowed base acts desk stage
SaysCleaned base acts desk Ends _ = ⊥

-- what this graph says to a deed
abbrev pub SaysDeed : Graph → Deed → Type 0
SaysDeed g (looked look told) = told ≡ answer_of g look
SaysDeed g (asked change reply) = reply ≡ reply_of g change

-- it has so many blocks, and so many are needed for the node, which are too many
pub record SaysOverfull (g : Graph) (node : NewNode) (blocks need : ℕ) : Type 0 where
  pub full : reply_of g (PutsNew node) ≡ deed.Full
  pub blocks_are : blocks ≡ g.blocks
  pub need_is : need ≡ new_blocks g node.level

abbrev pub add_reply : Option (List Row) → Option ℕ → ℕ → Placed
add_reply None next places = HasNoRoom next
add_reply (Some rows) next places = if nat_le (taken rows + row_need places) PAGE_ROOM then Came else HasNoRoom next

abbrev pub came_at : Option Tid → Placed
came_at (Some at) = CameAt at
came_at None = NoBlockLeft

-- the new row is the first on the next block of all
abbrev pub extend_reply : Option ℕ → ℕ → Placed
extend_reply (Some next) blocks = GoesOn next
extend_reply None blocks = if nat_lt blocks MOST_BLOCKS then came_at (tid_of blocks 1) else NoBlockLeft

-- what these lists say to a change
abbrev pub placing_reply : IvfGraph → Placing → Placed
placing_reply g (Adds block id bits) = add_reply (rows_on g block) (next_on g block) (length bits)
placing_reply g (Extends list last id bits) = extend_reply (next_on g last) g.blocks
placing_reply g (Cuts block gone) = Came
placing_reply g (Aims list block) = Came

-- gates alone are of both methods
abbrev pub SaysGate : Deed → Type 0
SaysGate (looked look told) = ⊥
SaysGate (asked (Takes gate hold) reply) = reply ≡ deed.Done
SaysGate (asked (Releases gate) reply) = reply ≡ deed.Done
SaysGate (asked _ reply) = ⊥

-- The one meaning of every answer: what an index with these parameters says, after these acts from the base, to a step of this desk.
-- An index of the other method says nothing to it.
abbrev pub Says : Params → Index → List Act → ℕ → Step → Type 0
Says p (OfNodes base) acts desk (did deed) = SaysDeed (nodes.after base acts) deed
Says p (OfNodes base) acts desk (overfull node blocks need) = SaysOverfull (nodes.after base acts) node blocks need
Says p (OfNodes base) acts desk (cleaned change reply) = SaysCleaned base acts desk change reply
Says p (OfNodes base) acts desk (viewed look told) = ⊥
Says p (OfNodes base) acts desk (placed change reply) = ⊥
Says p (OfNodes base) acts desk (settled upto) = ⊤
Says p (OfNodes base) acts desk (faulted count) = ⊤
Says p (OfLists base) acts desk (did deed) = SaysGate deed
Says p (OfLists base) acts desk (overfull node blocks need) = ⊥
Says p (OfLists base) acts desk (cleaned change reply) = ⊥
Says p (OfLists base) acts desk (viewed look told) = told ≡ told_of p.bits (lists.after base acts) look
Says p (OfLists base) acts desk (placed change reply) = reply ≡ placing_reply (lists.after base acts) change
Says p (OfLists base) acts desk (settled upto) = ⊤
Says p (OfLists base) acts desk (faulted count) = ⊤

-- ---- the events of steps

abbrev pub cleared_events : Cleaning → List Event
cleared_events (Relists at list_at version slots) = event.Relist at list_at version slots ∷ []
cleared_events (Drops at version gone) = []
cleared_events (Marks at list_at version) = event.Mark at list_at version ∷ []
cleared_events (Empties level) = event.Entry None level ∷ []
cleared_events (Begins stage) = event.Phase stage ∷ []
cleared_events Ends = []

abbrev pub drop_events : Cleaning → List Event
drop_events (Drops at version gone) = event.Drop at version gone ∷ []
drop_events _ = []

abbrev pub cleaned_events : Cleaning → Cleaned → List Event
cleaned_events change Cleared = cleared_events change
cleaned_events change (Left ids) = drop_events change
cleaned_events change Outdated = []
cleaned_events change Ended = event.VacuumEnd ∷ []
cleaned_events change (Cancelled stage) = event.Cancel stage ∷ []

abbrev pub came_events : Placing → List Event
came_events (Adds block id bits) = event.IvfAdd block id bits ∷ []
came_events (Extends list last id bits) = []
came_events (Cuts block gone) = event.IvfDrop block gone ∷ []
came_events (Aims list block) = event.IvfHint list block ∷ []

abbrev pub grow_events : Placing → ℕ → List Event
grow_events (Extends list last id bits) block = event.IvfGrow list last block id bits ∷ []
grow_events _ block = []

abbrev pub placed_events : Placing → Placed → List Event
placed_events change Came = came_events change
placed_events change (CameAt at) = grow_events change at.block
placed_events change _ = []

-- at most one event, in an index with these parameters
abbrev pub step_events : Params → Step → List Event
step_events p (did deed) = deed_events p.m deed
step_events p (overfull node blocks need) = []
step_events p (cleaned change reply) = cleaned_events change reply
step_events p (viewed look told) = []
step_events p (placed change reply) = placed_events change reply
step_events p (settled upto) = event.Settled upto ∷ []
step_events p (faulted count) = event.DiskFaulted count ∷ []
