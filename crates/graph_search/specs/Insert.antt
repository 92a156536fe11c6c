-- What an insert does, in order: the lists that a new node gets, and the links back to it. After the HNSW paper's Algorithm 1.
use Rattle.std.specs.Prelude.{◌≡◌, ℕ, zero, suc, ◌+◌, ◌-◌, ◌*◌, ◌==◌, ◌&&◌, not, nat_lt, nat_le, min, ⊤, ◌⊎◌, if◌then◌else◌, Bool, true, false, List, [], ◌∷◌, ◌++◌, map, filter, length, replicate, slice_get, Option, Some, None}
use Rattle.std.specs.List.{filter_map}
use Rattle.std.specs.Ordering.{eq_by_cmp}
use Rattle.vec_names.specs.declared.tid.Tid.{Tid}
use Rattle.vec_names.specs.declared.heap_id.HeapId.{HeapId}
use Rattle.vec_names.specs.declared.params.Ops.{Ops}
use Rattle.vec_names.specs.declared.params.Params.{Params}
use Rattle.vec_names.specs.Levels.{level_of}
use Rattle.vec_names.specs.Order.{tid_cmp}
use Rattle.bit_code.specs.Places.{unequal}
use Rattle.bit_dist.specs.Distances.{distance_of}
use Rattle.vec_history.specs.declared.gate.Gate.TheVariants.{Update}
use Rattle.vec_history.specs.declared.gate.Hold.TheVariants.{Shared, Alone}
use Rattle.vec_graph.specs.declared.place.Place.{Place}
use Rattle.neighbour_pick.specs.declared.found.Found.{Found}
use Rattle.neighbour_pick.specs.declared.found.SlotSeen.{SlotSeen}
use Rattle.neighbour_pick.specs.Order.{Candidate, candidate_of}
use Rattle.neighbour_pick.specs.Selection.{picked}
use Rattle.neighbour_pick.specs.Slots.{slot_of}
use Rattle.graph_search.specs.Reads.{Look, AtMeta, AtNode, AtList, Answer, Gone, OfMeta, OfList}
use Rattle.graph_search.specs.Deeds.{NewNode, Change, Joins, PutsOn, PutsNew, Links, Enters, Hints, Takes, Releases, Reply, Done, Placed, NoRoom, Full, NotJoined, Stale, Changed, Deed, looked, asked, looks_of, put_event, rows_made}
use Rattle.graph_search.specs.Search.{element_of, has_some, LayerSearch}
use Rattle.graph_search.specs.Descent.{Descent, or_from, start_at}

-- ---- the lists of a new node

-- what the lists are made for
pub record Newcomer : Type 0 where
  pub ops : Ops
  pub m : ℕ
  pub bits : List Bool
  pub level : ℕ
  pub ef : ℕ
  pub except : Option Tid

abbrev pub is_except : Option Tid → Tid → Bool
is_except None at = false
is_except (Some other) at = eq_by_cmp tid_cmp other at

abbrev pub without : Option Tid → List Found → List Found
without except es = filter (λ e. not (is_except except e.at)) es

-- twice m neighbours in the lowest layer, and m in each above
abbrev pub most_in : ℕ → ℕ → ℕ
most_in m layer = if layer == 0 then 2 * m else m

-- the neighbours in one layer, in the order of their choice
abbrev pub chosen : Newcomer → ℕ → List Found → List Found
chosen n layer found =
    filter_map (slice_get (without n.except found)) (picked n.ops (map candidate_of (without n.except found)) (most_in n.m layer))

-- a layer's slots: the neighbours, and then none
abbrev pub layer_part : Newcomer → ℕ → List Found → List (Option Tid)
layer_part n layer es = map (λ e. Some e.at) es ++ replicate (most_in n.m layer - length es) None

-- what an insert found: its slots, each neighbour with its layer, and what it found in the lowest layer
pub record Lists : Type 0 where
  pub slots : List (Option Tid)
  pub picks : List (ℕ × Found)
  pub near : List Found

-- One layer is searched, and then those below it.
pub record LayerOfLists (deeper : List Found → List (Look × Answer) → Lists → Type 0) (n : Newcomer) (layer : ℕ) (from : List Found)
    (reads : List (Look × Answer)) (lists : Lists) : Type 0 where
  pub first : List (Look × Answer)
  pub found : List Found
  pub search : LayerSearch (start_at n.ops n.bits from layer) n.ef first found
  pub later : List (Look × Answer)
  pub below : Lists
  pub deeper_is : deeper (or_from found from) later below
  pub reads_are : reads ≡ first ++ later
  pub slots_are : lists.slots ≡ layer_part n layer (chosen n layer found) ++ below.slots
  pub picks_are : lists.picks ≡ map (λ e. (layer, e)) (chosen n layer found) ++ below.picks
  pub near_is : lists.near ≡ if layer == 0 then without n.except found else below.near

-- so many layers, the highest first
abbrev pub ListsDown : Newcomer → ℕ → List Found → List (Look × Answer) → Lists → Type 0
ListsDown n zero from reads lists = (reads ≡ []) × (lists ≡ record { slots = []; picks = []; near = [] })
ListsDown n (suc layer) from reads lists = LayerOfLists (λ next later below. ListsDown n layer next later below) n layer from reads lists

-- all slots of a node of the level, none of which has a neighbour
abbrev pub no_neighbours : ℕ → ℕ → List (Option Tid)
no_neighbours m level = replicate ((level + 2) * m) None

-- without an entry point there is no neighbour; else the layers above it have none, and the others are searched
pub record ListsFrom (n : Newcomer) (top : ℕ) (from : List Found) (reads : List (Look × Answer)) (lists : Lists) : Type 0 where
  pub found : Lists
  pub down : ListsDown n (min top n.level + 1) from reads found
  pub lists_are : lists ≡ record { slots = replicate ((n.level - top) * n.m) None ++ found.slots; picks = found.picks; near = found.near }

abbrev pub lists_below : Newcomer → Option ℕ → List Found → List (Look × Answer) → Lists → Type 0
lists_below n None from reads lists = (reads ≡ []) × (lists ≡ record { slots = no_neighbours n.m n.level; picks = []; near = [] })
lists_below n (Some top) from reads lists = ListsFrom n top from reads lists

-- The lists: the descent to the node's level, and then each layer down to the lowest, where what one layer found is
-- where the next begins. `top` is the entry point's level.
pub record InsertLists (n : Newcomer) (reads : List (Look × Answer)) (top : Option ℕ) (lists : Lists) : Type 0 where
  pub down : List (Look × Answer)
  pub from : List Found
  pub descent : Descent n.ops n.bits n.level down top from
  pub on : List (Look × Answer)
  pub searched : lists_below n top from on lists
  pub reads_are : reads ≡ down ++ on

-- ---- links back

abbrev pub held_in : Option (Option Tid) → Option Tid
held_in None = None
held_in (Some held) = held

-- who is linked to: a node at a place, with a value
pub record Target : Type 0 where
  pub ops : Ops
  pub at : Tid
  pub bits : List Bool

-- a slot as looks told it, by distances to the list's owner; of a member that is not live only that it is not
pub data IsSlot (ops : Ops) (owner : List Bool) (layer : ℕ) : Option Tid → List (Look × Answer) → SlotSeen → Type 0 where
  empty : (seen : SlotSeen) → seen.at ≡ None → IsSlot ops owner layer None [] seen
  gone : (at : Tid) (told : Answer) (seen : SlotSeen) → seen.at ≡ Some at → element_of ops owner at told ≡ [] → seen.live ≡ false
      → IsSlot ops owner layer (Some at) ((AtNode at layer None, told) ∷ []) seen
  member : (at : Tid) (told : Answer) (e : Found) (seen : SlotSeen) → seen.at ≡ Some at → element_of ops owner at told ≡ e ∷ []
      → seen.live ≡ has_some e.ids.items → seen.dist ≡ e.dist → seen.bits ≡ e.bits
      → IsSlot ops owner layer (Some at) ((AtNode at layer None, told) ∷ []) seen

-- the slots of a layer in their order
abbrev pub AreSlots : Ops → List Bool → ℕ → List (Option Tid) → List (Look × Answer) → List SlotSeen → Type 0
AreSlots ops owner layer [] reads seen = (reads ≡ []) × (seen ≡ [])
AreSlots ops owner layer (slot ∷ slots) reads seen =
    (first : List (Look × Answer)) × (rest : List (Look × Answer)) × (one : SlotSeen) × (others : List SlotSeen)
    × (reads ≡ first ++ rest) × (seen ≡ one ∷ others)
    × IsSlot ops owner layer slot first one × AreSlots ops owner layer slots rest others

abbrev pub list_look : Found → ℕ → Look
list_look e layer = AtList e.at e.list_at e.level e.version layer

abbrev pub link_to : Found → ℕ → ℕ → List (Option Tid) → Tid → Change
link_to e layer slot slots to = Links e.at e.list_at e.level e.version layer slot (held_in (slice_get slots slot)) to

-- The newcomer as the slot choice of this neighbour sees it.
abbrev pub entrant_to : Target → Found → Candidate
entrant_to t e = record { at = t.at; dist = distance_of t.ops e.bits t.bits; bits = t.bits }

-- what is known once a neighbour's list and its members were read
pub record ListLooked (t : Target) (e : Found) (layer : ℕ) (deeds : List Deed) (slots : List (Option Tid))
    (choice : Option ℕ) : Type 0 where
  pub reads : List (Look × Answer)
  pub seen : List SlotSeen
  pub slots_are : AreSlots t.ops e.bits layer slots reads seen
  pub choice_is : choice ≡ slot_of t.ops seen (entrant_to t e)
  pub deeds_are : deeds ≡ looked (list_look e layer) (OfList slots) ∷ looks_of reads

-- One try at a neighbour: its list and each member are read, and then it is asked to name the newcomer in the slot that
-- is chosen. Where that slot holds another by now, `again` says what follows.
pub data Try (again : List Deed → Type 0) (t : Target) (e : Found) (layer : ℕ) : List Deed → Type 0 where
  no_list : Try again t e layer (looked (list_look e layer) Gone ∷ [])
  no_slot : (deeds : List Deed) (slots : List (Option Tid)) → ListLooked t e layer deeds slots None → Try again t e layer deeds
  linked : (deeds : List Deed) (slots : List (Option Tid)) (slot : ℕ) → ListLooked t e layer deeds slots (Some slot)
      → Try again t e layer (deeds ++ asked (link_to e layer slot slots t.at) Done ∷ [])
  stale : (deeds : List Deed) (slots : List (Option Tid)) (slot : ℕ) → ListLooked t e layer deeds slots (Some slot)
      → Try again t e layer (deeds ++ asked (link_to e layer slot slots t.at) Stale ∷ [])
  changed : (deeds : List Deed) (slots : List (Option Tid)) (slot : ℕ) (later : List Deed)
      → ListLooked t e layer deeds slots (Some slot) → again later
      → Try again t e layer (deeds ++ asked (link_to e layer slot slots t.at) Changed ∷ later)

-- at most so many tries
abbrev pub Tries : Target → Found → ℕ → ℕ → List Deed → Type 0
Tries t e layer zero deeds = deeds ≡ []
Tries t e layer (suc k) deeds = Try (λ later. Tries t e layer k later) t e layer deeds

-- The links back: each neighbour in turn, from the highest layer down, is tried at most three times.
abbrev pub LinksBack : Target → List (ℕ × Found) → List Deed → Type 0
LinksBack t [] deeds = deeds ≡ []
LinksBack t (p ∷ picks) deeds = (first : List Deed) × (rest : List Deed) × (deeds ≡ first ++ rest) × Tries t p.1 p.0 3 first
    × LinksBack t picks rest

-- ---- the whole course

-- with the newcomer's value, and with room for an id
abbrev pub may_join : List Bool → Found → Bool
may_join bits e = (unequal e.bits bits == 0) && (has_some e.ids.items && nat_le (length e.ids.items) 9)

-- an element has been asked in vain where it is not as it was read
abbrev pub IsRefused : Reply → Type 0
IsRefused NotJoined = ⊤
IsRefused Stale = ⊤
IsRefused Done = ⊥
IsRefused (Placed place) = ⊥
IsRefused NoRoom = ⊥
IsRefused Full = ⊥
IsRefused Changed = ⊥

-- These are asked to take the id, one after the other, until one does. `taken` is that one.
abbrev pub AsksToJoin : HeapId → List Found → List Deed → Option Found → Type 0
AsksToJoin id [] deeds taken = (deeds ≡ []) × (taken ≡ None)
AsksToJoin id (e ∷ es) deeds taken =
    ((deeds ≡ asked (Joins e.at e.version id) Done ∷ []) × (taken ≡ Some e))
    ⊎ ((reply : Reply) × (rest : List Deed) × IsRefused reply × (deeds ≡ asked (Joins e.at e.version id) reply ∷ rest)
    × AsksToJoin id es rest taken)

-- A place for the node is asked for on each of so many blocks, from this one on, until one has room, and then on new blocks.
-- `place` is what it gets.
abbrev pub AsksForPlace : NewNode → ℕ → ℕ → Place → List Deed → Type 0
AsksForPlace node zero block place deeds = deeds ≡ asked (PutsNew node) (Placed place) ∷ []
AsksForPlace node (suc k) block place deeds =
    ((deeds ≡ asked (PutsOn block node) (Placed place) ∷ []) × (place.at.block ≡ block))
    ⊎ ((rest : List Deed) × (deeds ≡ asked (PutsOn block node) NoRoom ∷ rest) × AsksForPlace node k (suc block) place rest)

-- it becomes the entry point where there is none, or its level is above that of the one there is
abbrev pub entering : Option ℕ → Tid → ℕ → List Deed
entering None at level = asked (Enters at level) Done ∷ []
entering (Some top) at level = if nat_lt top level then asked (Enters at level) Done ∷ [] else []

-- The block of its element is where the next search for room begins. A node above the lowest level moves no hint: it needs more room
-- than others.
abbrev pub hinting : ℕ → ℕ → Tid → List Deed
hinting level hint at = if (level == 0) && not (at.block == hint) then asked (Hints at.block) Done ∷ [] else []

-- what is put: the newcomer with one id, and with just the lists that were found
abbrev pub node_of : Newcomer → HeapId → Lists → NewNode
node_of n id lists = record { level = n.level; id = id; bits = n.bits; slots = lists.slots }

-- A new node: a place, the links back, the entry point, the hint.
pub record PutsNode (n : Newcomer) (id : HeapId) (hint blocks : ℕ) (top : Option ℕ) (lists : Lists) (place : Place)
    (deeds : List Deed) : Type 0 where
  pub put : List Deed
  pub placed : AsksForPlace (node_of n id lists) (blocks - hint) hint place put
  pub back : List Deed
  pub linked_back : LinksBack (record { ops = n.ops; at = place.at; bits = n.bits }) lists.picks back
  pub deeds_are : deeds ≡ put ++ back ++ entering top place.at n.level ++ hinting n.level hint place.at

-- what came of it: an element took the id, or a new node stands at a place
pub data Outcome : Type 0 where
  Joined : (e : Found) → Outcome
  Put : (place : Place) → Outcome

abbrev pub EndsAs : Newcomer → HeapId → ℕ → ℕ → Option ℕ → Lists → Option Found → Outcome → List Deed → Type 0
EndsAs n id hint blocks top lists (Some e) outcome deeds = (outcome ≡ Joined e) × (deeds ≡ [])
EndsAs n id hint blocks top lists None (Joined e) deeds = ⊥
EndsAs n id hint blocks top lists None (Put place) deeds = PutsNode n id hint blocks top lists place deeds

-- What an insert does once it has its gate: the lists; the elements that have its value are asked to take the id; else a new
-- node is put. `hint` and `blocks` are what its own last look at the meta tuple told, before.
pub record InsertCourse (n : Newcomer) (id : HeapId) (hint blocks : ℕ) (outcome : Outcome) (deeds : List Deed) : Type 0 where
  pub reads : List (Look × Answer)
  pub top : Option ℕ
  pub lists : Lists
  pub found : InsertLists n reads top lists
  pub joins : List Deed
  pub taken : Option Found
  pub asked_to_join : AsksToJoin id (filter (may_join n.bits) lists.near) joins taken
  pub rest : List Deed
  pub ends : EndsAs n id hint blocks top lists taken outcome rest
  pub deeds_are : deeds ≡ looks_of reads ++ joins ++ rest

-- ---- from gate to gate

-- what a look at the meta tuple told
pub record MetaTold : Type 0 where
  pub entry : Option Tid
  pub level : ℕ
  pub hint : ℕ
  pub blocks : ℕ

abbrev pub meta_look : MetaTold → Deed
meta_look t = looked AtMeta (OfMeta t.entry t.level t.hint t.blocks)

-- there is no entry point, or a node of this level is above it
abbrev pub is_above : ℕ → Option Tid → ℕ → Bool
is_above level None top = true
is_above level (Some at) top = nat_lt top level

-- The gate is taken beside others, and the meta tuple looked at. Where the node may become the entry point the gate is released and
-- taken alone, and the meta tuple looked at again. `told` is what the last look told.
pub data Opens (level : ℕ) (told : MetaTold) : List Deed → Type 0 where
  beside : is_above level told.entry told.level ≡ false
      → Opens level told (asked (Takes Update Shared) Done ∷ meta_look told ∷ [])
  alone : (first : MetaTold) → is_above level first.entry first.level ≡ true
      → Opens level told (asked (Takes Update Shared) Done ∷ meta_look first ∷ asked (Releases Update) Done
      ∷ asked (Takes Update Alone) Done ∷ meta_look told ∷ [])

-- what a word gives a new node of an index: the level
abbrev pub newcomer : Params → List Bool → ℕ → Newcomer
newcomer params bits word = record {
  ops = params.ops;
  m = params.m;
  bits = bits;
  level = level_of word params.m;
  ef = params.ef;
  except = None;
}

-- A whole insert of a row with this id and value, by a random word: the gate, the course, and the gate's release.
pub record WholeInsert (params : Params) (id : HeapId) (bits : List Bool) (word : ℕ) (outcome : Outcome) (deeds : List Deed)
    : Type 0 where
  pub told : MetaTold
  pub front : List Deed
  pub opens : Opens (level_of word params.m) told front
  pub under : List Deed
  pub course : InsertCourse (newcomer params bits word) id told.hint told.blocks outcome under
  pub deeds_are : deeds ≡ front ++ under ++ asked (Releases Update) Done ∷ []

-- What an insert puts: one new node, with the id and the value, of the level of the word, and with just the lists that looks among its
-- deeds gave. Nothing else that it does gives the index a row.
pub record PutsWhatItFound (params : Params) (id : HeapId) (bits : List Bool) (word : ℕ) (place : Place) (deeds : List Deed)
    : Type 0 where
  pub before : List Deed
  pub reads : List (Look × Answer)
  pub later : List Deed
  pub deeds_are : deeds ≡ before ++ (looks_of reads ++ later)
  pub top : Option ℕ
  pub lists : Lists
  pub found : InsertLists (newcomer params bits word) reads top lists
  pub one_row : rows_made params.m deeds ≡ put_event (node_of (newcomer params bits word) id lists) place ∷ []
