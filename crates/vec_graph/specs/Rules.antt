-- Which event a desk may make after a list of acts: one word for each kind of event. A base is the graph that the acts begin at.
use Rattle.std.specs.Prelude.{◌≡◌, ℕ, ◌+◌, ◌<◌, ◌≤◌, ◌^◌, ◌≢◌, ◌⊎◌, false, List, length, Option, Some, None}
use Rattle.index_sizes.specs.declared.limits.TheConstants.{MOST_BLOCKS, MOST_IDS}
use Rattle.index_sizes.specs.Sizes.{slots_of_level}
use Rattle.vec_names.specs.declared.tid.Tid.{Tid}
use Rattle.vec_names.specs.Levels.{most_level}
use Rattle.vec_history.specs.declared.event.Event.{Event}
use Rattle.vec_history.specs.declared.event.Event.TheVariants as event
use Rattle.vec_history.specs.declared.event.Act.{Act}
use Rattle.vec_history.specs.declared.gate.Gate.TheVariants.{Update, Vacuum}
use Rattle.vec_history.specs.declared.gate.Hold.TheVariants.{Alone}
use Rattle.vec_history.specs.declared.stage.Stage.{Stage}
use Rattle.vec_history.specs.declared.stage.Stage.TheVariants.{Remove, Repair, Mark}
use Rattle.vec_history.specs.Gates.{Holds, HoldsAs, IsGateAllowed}
use Rattle.vec_history.specs.Phases.{IsInPhase, IsUngateAllowed, IsPhaseRemoveAllowed, IsPhaseRepairAllowed}
use Rattle.vec_history.specs.Settling.{IsSettledAllowed, IsFaultAllowed}
use Rattle.vec_graph.specs.declared.place.Place.{Place}
use Rattle.vec_graph.specs.declared.node.Node.{Node}
use Rattle.vec_graph.specs.declared.graph.Graph.{Graph}
use Rattle.vec_graph.specs.Graph.{node_at, IsLiveAt, IsDoomed, IsDoomedAt, slot_layer, IsMember}
use Rattle.vec_graph.specs.Places.{place_on, new_place, new_blocks}
use Rattle.vec_graph.specs.Effect.{NewNode, after}
use Rattle.vec_graph.specs.Knowing.{Knows}
use Rattle.vec_graph.specs.Cleaning.{IsRepaired}

-- ---- phases

abbrev pub IsPhaseMarkAllowed : Graph → List Act → ℕ → Type 0
IsPhaseMarkAllowed base acts desk = IsRepaired base acts desk

abbrev pub IsPhaseAllowed : Graph → List Act → ℕ → Stage → Type 0
IsPhaseAllowed base acts desk Remove = IsPhaseRemoveAllowed acts desk
IsPhaseAllowed base acts desk Repair = IsPhaseRepairAllowed acts desk
IsPhaseAllowed base acts desk Mark = IsPhaseMarkAllowed base acts desk

-- The desk's phase Mark stands, and no node is doomed.
pub record IsVacuumEndAllowed (base : Graph) (acts : List Act) (desk : ℕ) : Type 0 where
  pub phase : IsInPhase acts desk Mark
  pub none_doomed : (at : Tid) → IsDoomedAt (after base acts) at → ⊥

-- The desk's phase of this stage stands, and it may not end the vacuum otherwise.
pub record IsCancelAllowed (base : Graph) (acts : List Act) (desk : ℕ) (stage : Stage) : Type 0 where
  pub phase : IsInPhase acts desk stage
  pub not_done : IsVacuumEndAllowed base acts desk → ⊥

-- ---- nodes

-- the desk knows each member of each layer up to that layer, where the index has this m and the node this level
abbrev pub KnowsMembers : Graph → List Act → ℕ → ℕ → ℕ → List (Option Tid) → Type 0
KnowsMembers base acts desk m level lists = (layer : ℕ) (to : Tid) → IsMember m level lists layer to → Knows base acts desk to layer

-- The places and the version are those that the element's block gives, or those on new blocks, which stay within the limit.
abbrev pub IsPlaced : Graph → Tid → ℕ → Place → Type 0
IsPlaced g at level spot =
    (place_on g at.block level ≡ Some spot) ⊎ ((new_place g level ≡ Some spot) × (g.blocks + new_blocks g level ≤ MOST_BLOCKS))

-- A new node: at a place for its level, with a value of the index's length, and neighbours that the desk knows.
pub record IsPutAllowed (base : Graph) (acts : List Act) (desk : ℕ) (new : NewNode) : Type 0 where
  pub update : Holds acts desk Update
  pub placed : IsPlaced (after base acts) new.at new.level (record { at = new.at; list_at = new.list_at; version = new.version })
  pub as_long : length new.bits ≡ (after base acts).params.bits
  pub not_high : new.level ≤ most_level (after base acts).params.m
  pub as_many : length new.lists ≡ slots_of_level (after base acts).params.m new.level
  pub known : KnowsMembers base acts desk (after base acts).params.m new.level new.lists

-- the node at a place, which has this version and is not deleted
pub record IsThere (g : Graph) (at : Tid) (version : ℕ) (n : Node) : Type 0 where
  pub stands : node_at g at ≡ Some n
  pub of_version : n.version ≡ version
  pub not_deleted : n.deleted ≡ false

-- A further id joins a node that has one, and not as many as may be.
pub record IsJoinAllowed (base : Graph) (acts : List Act) (desk : ℕ) (at : Tid) (version : ℕ) : Type 0 where
  pub update : Holds acts desk Update
  pub node : Node
  pub there : IsThere (after base acts) at version node
  pub some : 1 ≤ length node.ids
  pub room : length node.ids < MOST_IDS

-- A slot that the node has comes to name a place that the desk knows up to the slot's layer.
pub record IsLinkAllowed (base : Graph) (acts : List Act) (desk : ℕ) (at list_at : Tid) (version slot : ℕ) (to : Tid) : Type 0 where
  pub update : Holds acts desk Update
  pub owner : Node
  pub there : IsThere (after base acts) at version owner
  pub listed : owner.list_at ≡ list_at
  pub slot_is : slot < length owner.slots
  pub known : Knows base acts desk to (slot_layer (after base acts).params.m owner.level slot)

-- All slots of the node come to name other places, each of which the desk knows up to the slot's layer.
pub record IsRelistAllowed (base : Graph) (acts : List Act) (desk : ℕ) (at list_at : Tid) (version : ℕ)
    (lists : List (Option Tid)) : Type 0 where
  pub update : Holds acts desk Update
  pub owner : Node
  pub there : IsThere (after base acts) at version owner
  pub listed : owner.list_at ≡ list_at
  pub as_many : length lists ≡ length owner.slots
  pub known : KnowsMembers base acts desk (after base acts).params.m owner.level lists

-- Ids go that are there, one at least, while the desk's phase Remove stands.
pub record IsDropAllowed (base : Graph) (acts : List Act) (desk : ℕ) (at : Tid) (version gone : ℕ) : Type 0 where
  pub phase : IsInPhase acts desk Remove
  pub node : Node
  pub there : IsThere (after base acts) at version node
  pub names_some : gone ≢ 0
  pub names_no_others : gone < 2 ^ length node.ids

-- A doomed node is deleted, while the desk's phase Mark stands.
pub record IsMarkAllowed (base : Graph) (acts : List Act) (desk : ℕ) (at list_at : Tid) (version : ℕ) : Type 0 where
  pub phase : IsInPhase acts desk Mark
  pub node : Node
  pub there : IsThere (after base acts) at version node
  pub listed : node.list_at ≡ list_at
  pub doomed : IsDoomed node

-- ---- the entry point and the hint

-- A node that the desk knows up to its own level, which is the one named.
pub record IsEntryAtAllowed (base : Graph) (acts : List Act) (desk : ℕ) (to : Tid) (level : ℕ) : Type 0 where
  pub update : Holds acts desk Update
  pub node : Node
  pub stands : node_at (after base acts) to ≡ Some node
  pub of_level : node.level ≡ level
  pub known : Knows base acts desk to level

-- No entry point any more: the desk holds Update alone, and no node is live.
pub record IsNoEntryAllowed (base : Graph) (acts : List Act) (desk level : ℕ) : Type 0 where
  pub alone : HoldsAs acts desk Update Alone
  pub level_0 : level ≡ 0
  pub none_live : (at : Tid) → IsLiveAt (after base acts) at 0 → ⊥

abbrev pub IsEntryAllowed : Graph → List Act → ℕ → Option Tid → ℕ → Type 0
IsEntryAllowed base acts desk (Some to) level = IsEntryAtAllowed base acts desk to level
IsEntryAllowed base acts desk None level = IsNoEntryAllowed base acts desk level

pub record IsHintAllowed (base : Graph) (acts : List Act) (desk block : ℕ) : Type 0 where
  pub holds : Holds acts desk Update ⊎ Holds acts desk Vacuum
  pub counted_from_1 : 1 ≤ block
  pub within : block ≤ (after base acts).blocks

-- ---- all events

-- The desk may make the event after these acts. No event of an index of lists is allowed.
abbrev pub IsEventAllowed : Graph → List Act → ℕ → Event → Type 0
IsEventAllowed base acts desk (event.Put at list_at version level id bits lists) =
    IsPutAllowed base acts desk
    (record { at = at; list_at = list_at; version = version; level = level; id = id; bits = bits; lists = lists })
IsEventAllowed base acts desk (event.Join at version id) = IsJoinAllowed base acts desk at version
IsEventAllowed base acts desk (event.Link at list_at version slot to) = IsLinkAllowed base acts desk at list_at version slot to
IsEventAllowed base acts desk (event.Relist at list_at version lists) = IsRelistAllowed base acts desk at list_at version lists
IsEventAllowed base acts desk (event.Drop at version gone) = IsDropAllowed base acts desk at version gone
IsEventAllowed base acts desk (event.Mark at list_at version) = IsMarkAllowed base acts desk at list_at version
IsEventAllowed base acts desk (event.Entry to level) = IsEntryAllowed base acts desk to level
IsEventAllowed base acts desk (event.Hint block) = IsHintAllowed base acts desk block
IsEventAllowed base acts desk (event.IvfAdd block id bits) = ⊥
IsEventAllowed base acts desk (event.IvfGrow list last block id bits) = ⊥
IsEventAllowed base acts desk (event.IvfDrop block gone) = ⊥
IsEventAllowed base acts desk (event.IvfHint list block) = ⊥
IsEventAllowed base acts desk (event.Gate gate hold) = IsGateAllowed acts desk gate hold
IsEventAllowed base acts desk (event.Ungate gate) = IsUngateAllowed acts desk gate
IsEventAllowed base acts desk (event.Phase stage) = IsPhaseAllowed base acts desk stage
IsEventAllowed base acts desk event.VacuumEnd = IsVacuumEndAllowed base acts desk
IsEventAllowed base acts desk (event.Cancel stage) = IsCancelAllowed base acts desk stage
IsEventAllowed base acts desk (event.Settled upto) = IsSettledAllowed acts upto
IsEventAllowed base acts desk (event.DiskFaulted count) = IsFaultAllowed acts count
