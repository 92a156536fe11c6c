-- What the parts of an insert do under the gate.
use Rattle.std.specs.Prelude.{◌≡◌, ◌-◌, ◌==◌, ◌&&◌, not, nat_lt, ℕ, zero, suc, Bool, true, false, List, [], ◌∷◌, ◌++◌, filter, Option, Some, None}
use Rattle.std.specs.Option.{option_map}
use Rattle.vec_names.specs.declared.tid.Tid.{Tid}
use Rattle.vec_names.specs.declared.heap_id.HeapId.{HeapId}
use Rattle.vec_history.specs.declared.event.Act.{Act}
use Rattle.vec_history.specs.declared.gate.Hold.{Hold}
use Rattle.vec_history.specs.declared.gate.Hold.TheVariants.{Shared}
use Rattle.vec_history.specs.declared.gate.Gate.TheVariants.{Update}
use Rattle.vec_graph.specs.declared.place.Place.{Place}
use Rattle.neighbour_pick.specs.declared.found.Found.{Found}
use Rattle.graph_search.specs.Deeds.{Deed, NewNode, Reply, Done, NoRoom, asked, Joins, PutsOn, Takes, Releases}
use Rattle.graph_search.specs.Insert.{AsksForPlace, AsksToJoin, InsertCourse, IsRefused, Lists, LinksBack, MetaTold, Newcomer, Outcome, Joined, Put, PutsNode, Target, entering, hinting, is_above, may_join, meta_look}
use Rattle.search_sets.specs.declared.spot.Spot.{Spot}
use Rattle.search_sets.specs.Standing.{spot_of}
use Rattle.vec_steps.specs.declared.ask.Ask.{Ask}
use Rattle.vec_steps.specs.declared.ask.Ask.TheVariants as ask
use Rattle.vec_steps.specs.declared.told.Told.{Told}
use Rattle.vec_steps.specs.Index.{Index}
use Rattle.vec_steps.specs.Doing.{Step, overfull}
use Rattle.vec_steps.specs.Desks.{Desk}
use Rattle.vec_steps.specs.Calls.{AreDeeds}
use Rattle.hnsw_insert.specs.declared.landing.Landing.{Landing}
use Rattle.hnsw_insert.specs.Courses.{Did, Went}

-- ---- joining

-- whether an element took the id, by the word
abbrev pub IsJoinedBy : Bool → Reply → Type 0
IsJoinedBy true reply = reply ≡ Done
IsJoinedBy false reply = IsRefused reply

-- A call asked one element to take the id.
pub record AsksOne (over : Index → Type 0) (d : Desk) (old new : List Act) (id : HeapId) (spot : Spot) (joined : Bool) : Type 0 where
  pub reply : Reply
  pub made : (trace : List ℕ) → Did over d old new trace trace (asked (Joins spot.at spot.version id) reply ∷ [])
  pub answered : IsJoinedBy joined reply

-- With the first element the asks are over, where it took the id; or they go on with the others.
abbrev pub GoesOnBy : Bool → HeapId → List Bool → Found → List Deed → Type 0
GoesOnBy true id bits e deeds = (es : List Found) → AsksToJoin id (filter (may_join bits) (e ∷ es)) deeds (Some e)
GoesOnBy false id bits e deeds = (es : List Found) (later : List Deed) (taken : Option Found)
    → AsksToJoin id (filter (may_join bits) es) later taken → AsksToJoin id (filter (may_join bits) (e ∷ es)) (deeds ++ later) taken

-- A call asked an element, where it has the value and room for the id.
pub record AsksAt (over : Index → Type 0) (d : Desk) (old new : List Act) (id : HeapId) (bits : List Bool) (e : Found) (joined : Bool)
    : Type 0 where
  pub deeds : List Deed
  pub made : (trace : List ℕ) → Did over d old new trace trace deeds
  pub goes_on : GoesOnBy joined id bits e deeds

-- A call asked the elements near that have the value and room, in their order, until one took the id, and tells where that one stands.
pub record AsksAll (over : Index → Type 0) (d : Desk) (old new : List Act) (id : HeapId) (bits : List Bool) (near : List Found)
    (spot : Option Spot) : Type 0 where
  pub deeds : List Deed
  pub taken : Option Found
  pub made : (trace : List ℕ) → Did over d old new trace trace deeds
  pub asks : AsksToJoin id (filter (may_join bits) near) deeds taken
  pub spot_is : spot ≡ option_map spot_of taken

-- ---- a place

abbrev pub aimed : ℕ → Ask → Ask
aimed to (ask.Put block node) = ask.Put to node
aimed to other = other

abbrev pub anew : Ask → Ask
anew (ask.Put block node) = ask.PutNew node
anew other = other

-- A call put the node on the first block that has room, or on new ones, and this is where.
pub record PlacesNode (over : Index → Type 0) (d : Desk) (old new : List Act) (node : NewNode) (hint blocks : ℕ) (place : Place)
    : Type 0 where
  pub deeds : List Deed
  pub made : (trace : List ℕ) → Did over d old new trace trace deeds
  pub placed : AsksForPlace node (blocks - hint) hint place deeds

-- so many blocks, from this one on, had no room
abbrev pub refused_on : NewNode → ℕ → ℕ → List Deed
refused_on node zero block = []
refused_on node (suc k) block = asked (PutsOn block node) NoRoom ∷ refused_on node k (suc block)

-- No block is left for a node of this level: each of so many had no room for it, from this one on, and then the index had as many
-- blocks as it may.
pub record IsFullFor (level count block : ℕ) (course : List (ℕ × Step)) (blocks need : ℕ) : Type 0 where
  pub node : NewNode
  pub level_is : node.level ≡ level
  pub before : List (ℕ × Step)
  pub asks : List (ℕ × Step)
  pub in_vain : AreDeeds asks (refused_on node count block)
  pub at : ℕ
  pub course_is : course ≡ before ++ (asks ++ (at, overfull node blocks need) ∷ [])

-- ---- after the Put

-- whether a level is above that of the entry point, if there is one
abbrev pub is_higher : Option ℕ → ℕ → Bool
is_higher None level = true
is_higher (Some top) level = nat_lt top level

-- whether a node of this level, at this place, moves the hint
abbrev pub moves_hint : ℕ → ℕ → Tid → Bool
moves_hint level hint at = (level == 0) && not (at.block == hint)

-- A call linked the neighbours back, and moved the entry point and the hint as an insert does.
pub record FinishesSo (over : Index → Type 0) (d : Desk) (old new : List Act) (before now : List ℕ) (t : Target) (picks : List (ℕ × Found))
    (top : Option ℕ) (level hint : ℕ) : Type 0 where
  pub back : List Deed
  pub linked_back : LinksBack t picks back
  pub made : Did over d old new before now (back ++ (entering top t.at level ++ hinting level hint t.at))

-- A call put a new node, with just these lists, and linked it.
pub record AddsNode (over : Index → Type 0) (d : Desk) (old new : List Act) (before now : List ℕ) (n : Newcomer) (id : HeapId)
    (hint blocks : ℕ) (top : Option ℕ) (lists : Lists) (place : Place) : Type 0 where
  pub deeds : List Deed
  pub puts : PutsNode n id hint blocks top lists place deeds
  pub made : Did over d old new before now deeds

-- ---- the course

-- where a row came to stand
abbrev pub landed : ℕ → Outcome → Landing
landed level (Joined e) = record { at = e.at; version = e.version; level = e.level; joined = true }
landed level (Put place) = record { at = place.at; version = place.version; level = level; joined = false }

-- A call found the lists of the newcomer, and let an element take the id or put a new node.
pub record RunsCourse (over : Index → Type 0) (d : Desk) (old new : List Act) (before now : List ℕ) (n : Newcomer) (id : HeapId)
    (hint blocks : ℕ) (landing : Landing) : Type 0 where
  pub outcome : Outcome
  pub landing_is : landing ≡ landed n.level outcome
  pub deeds : List Deed
  pub course : InsertCourse n id hint blocks outcome deeds
  pub made : Did over d old new before now deeds

-- ---- under the gate

abbrev pub meta_told : Told → MetaTold
meta_told t = record { entry = t.tid; level = t.level; hint = t.hint; blocks = t.blocks }

-- The meta tuple was looked at, and the gate is to be taken alone.
pub record Leaves (over : Index → Type 0) (d : Desk) (old new : List Act) (before now : List ℕ) (hold : Hold) (level : ℕ) : Type 0 where
  pub told : MetaTold
  pub shared : hold ≡ Shared
  pub above : is_above level told.entry told.level ≡ true
  pub made : Did over d old new before now (meta_look told ∷ [])

-- The meta tuple was looked at, and then the course run.
pub record Stays (over : Index → Type 0) (d : Desk) (old new : List Act) (before now : List ℕ) (hold : Hold) (n : Newcomer) (id : HeapId)
    (landing : Landing) : Type 0 where
  pub told : MetaTold
  pub kept : hold ≡ Shared → is_above n.level told.entry told.level ≡ false
  pub outcome : Outcome
  pub landing_is : landing ≡ landed n.level outcome
  pub deeds : List Deed
  pub course : InsertCourse n id told.hint told.blocks outcome deeds
  pub made : Did over d old new before now (meta_look told ∷ deeds)

abbrev pub RunsUnder : (Index → Type 0) → Desk → List Act → List Act → List ℕ → List ℕ → Hold → Newcomer → HeapId → Option Landing → Type 0
RunsUnder over d old new before now hold n id None = Leaves over d old new before now hold n.level
RunsUnder over d old new before now hold n id (Some landing) = Stays over d old new before now hold n id landing

-- no block is left, by the last look at the meta tuple
pub record IsFullUnder (hold : Hold) (level : ℕ) (course : List (ℕ × Step)) (blocks need : ℕ) : Type 0 where
  pub told : MetaTold
  pub kept : hold ≡ Shared → is_above level told.entry told.level ≡ false
  pub look : List (ℕ × Step)
  pub look_is : AreDeeds look (meta_look told ∷ [])
  pub rest : List (ℕ × Step)
  pub full : IsFullFor level (told.blocks - told.hint) told.hint rest blocks need
  pub course_is : course ≡ look ++ rest

-- ---- from gate to gate

-- The gate was taken and released, and between them all was done, or it was seen that it has to be taken alone.
pub record TurnsBack (over : Index → Type 0) (d : Desk) (old new : List Act) (before now : List ℕ) (hold : Hold) (level : ℕ) : Type 0 where
  pub told : MetaTold
  pub shared : hold ≡ Shared
  pub above : is_above level told.entry told.level ≡ true
  pub made : Went over d old new before now (asked (Takes Update hold) Done ∷ meta_look told ∷ asked (Releases Update) Done ∷ [])

pub record GoesThrough (over : Index → Type 0) (d : Desk) (old new : List Act) (before now : List ℕ) (hold : Hold) (n : Newcomer)
    (id : HeapId) (landing : Landing) : Type 0 where
  pub told : MetaTold
  pub kept : hold ≡ Shared → is_above n.level told.entry told.level ≡ false
  pub outcome : Outcome
  pub landing_is : landing ≡ landed n.level outcome
  pub deeds : List Deed
  pub course : InsertCourse n id told.hint told.blocks outcome deeds
  pub made : Went over d old new before now (asked (Takes Update hold) Done ∷ meta_look told ∷ (deeds ++ asked (Releases Update) Done ∷ []))

abbrev pub RunsHeld : (Index → Type 0) → Desk → List Act → List Act → List ℕ → List ℕ → Hold → Newcomer → HeapId → Option Landing → Type 0
RunsHeld over d old new before now hold n id None = TurnsBack over d old new before now hold n.level
RunsHeld over d old new before now hold n id (Some landing) = GoesThrough over d old new before now hold n id landing

-- no block is left, after the gate was taken in this way
pub record IsFullHeld (hold : Hold) (level : ℕ) (course : List (ℕ × Step)) (blocks need : ℕ) : Type 0 where
  pub taken : List (ℕ × Step)
  pub taken_is : AreDeeds taken (asked (Takes Update hold) Done ∷ [])
  pub under : List (ℕ × Step)
  pub full : IsFullUnder hold level under blocks need
  pub behind : List (ℕ × Step)
  pub course_is : course ≡ (taken ++ under) ++ behind
