-- The lists of a new node: what the parts of their search do.
use Rattle.std.specs.Prelude.{◌≡◌, ℕ, ◌+◌, ◌==◌, if◌then◌else◌, Bool, List, ◌++◌, map, length, slice_get, Option, Some, None}
use Rattle.std.specs.List.{AllByRecursion, filter_map}
use Rattle.vec_names.specs.declared.tid.Tid.{Tid}
use Rattle.vec_names.specs.declared.params.Params.{Params}
use Rattle.vec_history.specs.declared.event.Act.{Act}
use Rattle.neighbour_pick.specs.declared.found.Found.{Found}
use Rattle.neighbour_pick.specs.Order.{candidate_of}
use Rattle.neighbour_pick.specs.Selection.{picked}
use Rattle.graph_search.specs.Reads.{Answer, Look}
use Rattle.graph_search.specs.Search.{LayerSearch}
use Rattle.graph_search.specs.Descent.{or_from, start_at}
use Rattle.graph_search.specs.Insert.{InsertLists, Lists, ListsDown, Newcomer, chosen, layer_part, most_in, without}
use Rattle.vec_graph.specs.declared.graph.Graph.{Graph}
use Rattle.vec_graph.specs.Knowing.{Knows}
use Rattle.search_sets.specs.Standing.{spot_of}
use Rattle.vec_steps.specs.Index.{Index, OfNodes, OfLists}
use Rattle.vec_steps.specs.Desks.{Desk}
use Rattle.layer_search.specs.declared.plan.Plan.{Plan}
use Rattle.layer_search.specs.declared.found_lists.FoundLists.{FoundLists}
use Rattle.layer_search.specs.Telling.{StandThere, StandsAt}
use Rattle.layer_search.specs.Looking.{MadeLooks}

-- how many elements each search of a layer wants: one more where one is left out of what is found
abbrev pub ef_beside : ℕ → Option Tid → ℕ
ef_beside ef None = ef
ef_beside ef (Some except) = ef + 1

-- for whom the lists are, in an index with these parameters
abbrev pub newcomer_in : Params → List Bool → ℕ → Option Tid → Newcomer
newcomer_in p bits level except = record {
  ops = p.ops;
  m = p.m;
  bits = bits;
  level = level;
  ef = ef_beside p.ef except;
  except = except;
}

-- the same, by a plan
abbrev pub newcomer_of : Plan → List Bool → Newcomer
newcomer_of plan bits = record {
  ops = plan.ops;
  m = plan.m;
  bits = bits;
  level = plan.level;
  ef = plan.ef;
  except = plan.except;
}

-- what was found, in the words of an insert
abbrev pub lists_of : FoundLists → Lists
lists_of f = record { slots = f.lists; picks = f.picks; near = f.near }

-- the values of the neighbours have so many places
abbrev pub ArePicksLong : ℕ → List (ℕ × Found) → Type 0
ArePicksLong n picks = AllByRecursion (λ p. length p.1.bits ≡ n) picks

-- the neighbours in the plan's layer among these elements, in the order of their choice
abbrev pub picked_from : Plan → List Found → List Found
picked_from plan others =
    filter_map (slice_get others) (picked plan.ops (map candidate_of others) (most_in plan.m plan.layer))

-- what stands near once a layer is searched: in the lowest what was found, and else where the next search begins
abbrev pub near_after : Newcomer → ℕ → List Found → List Found → List Found
near_after n layer found from = if layer == 0 then without n.except found else or_from found from

-- The neighbours in a layer were chosen among those found there.
pub record TakesLayer (n : Newcomer) (layer : ℕ) (found : List Found) (was after : FoundLists) : Type 0 where
  pub slots_are : after.lists ≡ was.lists ++ layer_part n layer (chosen n layer found)
  pub picks_are : after.picks ≡ was.picks ++ map (λ e. (layer, e)) (chosen n layer found)
  pub near_is : after.near ≡ near_after n layer found was.near

-- A call searched a layer from what stood near, and chose the neighbours in it.
pub record FindsLayer (over : Index → Type 0) (d : Desk) (old new : List Act) (before traced : List ℕ) (n : Newcomer) (layer : ℕ)
    (was after : FoundLists) : Type 0 where
  pub reads : List (Look × Answer)
  pub found : List Found
  pub made : MadeLooks over d old new before traced reads
  pub search : LayerSearch (start_at n.ops n.bits was.near layer) n.ef reads found
  pub takes : TakesLayer n layer found was after

-- A call searched so many layers, the lowest among them.
pub record FindsDown (over : Index → Type 0) (d : Desk) (old new : List Act) (before traced : List ℕ) (n : Newcomer) (layers : ℕ)
    (was after : FoundLists) : Type 0 where
  pub reads : List (Look × Answer)
  pub below : Lists
  pub made : MadeLooks over d old new before traced reads
  pub down : ListsDown n layers was.near reads below
  pub slots_are : after.lists ≡ was.lists ++ below.slots
  pub picks_are : after.picks ≡ was.picks ++ below.picks
  pub near_is : after.near ≡ below.near

-- A call found the lists of a new node: its looks are those by which the lists are defined, in their order, and these are the lists.
pub record FindsLists (over : Index → Type 0) (d : Desk) (old new : List Act) (before now : List ℕ) (n : Newcomer) (top : Option ℕ)
    (lists : Lists) : Type 0 where
  pub reads : List (Look × Answer)
  pub made : MadeLooks over d old new before now reads
  pub found : InsertLists n reads top lists

-- Each neighbour stands as it was told, and reaches its layer. In an index of lists none does.
abbrev pub ArePicksThere : List Act → List (ℕ × Found) → Index → Type 0
ArePicksThere acts picks (OfNodes base) = AllByRecursion (λ p. StandsAt base acts p.0 (spot_of p.1)) picks
ArePicksThere acts picks (OfLists base) = ⊥

-- so does all that was found
pub record AreThere (acts : List Act) (lists : Lists) (base : Index) : Type 0 where
  pub picks : ArePicksThere acts lists.picks base
  pub near : StandThere acts 0 (map spot_of lists.near) base

-- the desk knows each neighbour in its layer
abbrev pub ArePicksKnown : Graph → List Act → ℕ → List (ℕ × Found) → Type 0
ArePicksKnown base acts desk picks = AllByRecursion (λ p. Knows base acts desk p.1.at p.0) picks
