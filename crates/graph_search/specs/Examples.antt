-- Worked searches for 0001. One has three nodes of the values 0000, 0011 and 0111, each of which names the other two. One has a node
-- without rows between two others: 0001 names 1111, which has none, and that names 0011.
use Rattle.std.specs.Prelude.{ℕ, Bool, true, false, List, [], ◌∷◌, Some, None}
use Rattle.vec_names.specs.declared.tid.Tid.{Tid}
use Rattle.vec_names.specs.declared.heap_id.HeapId.{HeapId}
use Rattle.vec_names.specs.declared.params.Ops.{Ops}
use Rattle.vec_names.specs.declared.params.Params.{Params}
use Rattle.vec_names.specs.Levels.{level_of}
use Rattle.vec_history.specs.declared.event.Event.{Event}
use Rattle.vec_history.specs.declared.event.Event.TheVariants as event
use Rattle.vec_history.specs.declared.gate.Gate.TheVariants.{Update}
use Rattle.vec_history.specs.declared.gate.Hold.TheVariants.{Shared, Alone}
use Rattle.vec_graph.specs.declared.place.Place.{Place}
use Rattle.vec_names.specs.declared.params.Ops.TheVariants.{Hamming}
use Rattle.bit_dist.specs.Distances.{hamming_of}
use Rattle.neighbour_pick.specs.declared.found.Found.{Found}
use Rattle.graph_search.specs.Reads.{Look, AtMeta, AtNode, Answer, Gone, OfMeta, OfNode, OfList}
use Rattle.graph_search.specs.Search.{Turn, Start}
use Rattle.graph_search.specs.Descent.{start_at}
use Rattle.graph_search.specs.Scan.{Standing}
use Rattle.graph_search.specs.Deeds.{NewNode, PutsNew, Enters, Takes, Releases, Done, Placed, Deed, asked, put_event}
use Rattle.graph_search.specs.Insert.{Newcomer, Lists, no_neighbours, MetaTold, meta_look}

abbrev pub zeros : List Bool
zeros = false ∷ false ∷ false ∷ false ∷ []

abbrev pub last_two : List Bool
last_two = false ∷ false ∷ true ∷ true ∷ []

abbrev pub last_three : List Bool
last_three = false ∷ true ∷ true ∷ true ∷ []

abbrev pub last_one : List Bool
last_one = false ∷ false ∷ false ∷ true ∷ []

-- a place of a node with that of its list and its row
pub record Stand : Type 0 where
  pub at : Tid
  pub list_at : Tid
  pub id : HeapId

abbrev pub element_at : Stand → List Bool → Found
element_at s bits = record {
  at = s.at;
  list_at = s.list_at;
  level = 0;
  version = 1;
  dist = hamming_of last_one bits;
  ids = record { items = s.id ∷ [] };
  bits = bits;
}

abbrev pub told_of : Stand → List Bool → Answer
told_of s bits = OfNode 0 1 s.list_at (s.id ∷ []) bits

abbrev pub naming : Stand → Stand → Answer
naming s t = OfList (Some s.at ∷ Some t.at ∷ None ∷ None ∷ [])

abbrev pub from_first : Stand → Start
from_first a = record { ops = Hamming; query = last_one; from = element_at a zeros ∷ []; layer = 0 }

-- from the first node the others become known; they name nothing new
abbrev pub three_turns : Stand → Stand → Stand → List Turn
three_turns a b c =
    record { element = element_at a zeros; list = naming b c; nodes = (b.at, told_of b last_two) ∷ (c.at, told_of c last_three) ∷ [] }
    ∷ record { element = element_at b last_two; list = naming a c; nodes = [] }
    ∷ record { element = element_at c last_three; list = naming b a; nodes = [] }
    ∷ []

-- what an example's search expands first: the others become known
abbrev pub one_turn : Stand → Stand → Stand → List Turn
one_turn a b c =
    record { element = element_at a zeros; list = naming b c; nodes = (b.at, told_of b last_two) ∷ (c.at, told_of c last_three) ∷ [] } ∷ []

-- ---- through a node that has lost its rows

abbrev pub all_four : List Bool
all_four = true ∷ true ∷ true ∷ true ∷ []

abbrev pub without_rows : Stand → List Bool → Found
without_rows s bits = record {
  at = s.at;
  list_at = s.list_at;
  level = 0;
  version = 1;
  dist = hamming_of last_one bits;
  ids = record { items = [] };
  bits = bits;
}

abbrev pub told_without_rows : Stand → List Bool → Answer
told_without_rows s bits = OfNode 0 1 s.list_at [] bits

abbrev pub naming_one : Stand → Answer
naming_one s = OfList (Some s.at ∷ None ∷ None ∷ None ∷ [])

abbrev pub from_nearest : Stand → Start
from_nearest a = record { ops = Hamming; query = last_one; from = element_at a last_one ∷ []; layer = 0 }

abbrev pub turns_through : Stand → Stand → Stand → List Turn
turns_through a b c =
    record { element = element_at a last_one; list = naming_one b; nodes = (b.at, told_without_rows b all_four) ∷ [] }
    ∷ record { element = without_rows b all_four; list = naming a c; nodes = (c.at, told_of c last_two) ∷ [] }
    ∷ record { element = element_at c last_two; list = naming_one b; nodes = [] }
    ∷ []

-- ---- nowhere to begin

abbrev pub no_entry_reads : ℕ → ℕ → List (Look × Answer)
no_entry_reads hint blocks = (AtMeta, OfMeta None 0 hint blocks) ∷ []

abbrev pub gone_entry_reads : Tid → ℕ → ℕ → ℕ → List (Look × Answer)
gone_entry_reads at level hint blocks = (AtMeta, OfMeta (Some at) level hint blocks) ∷ (AtNode at level None, Gone) ∷ []

-- where a scan stands that found nothing
abbrev pub nothing_found : Ops → List Bool → Standing
nothing_found ops query = record { start = start_at ops query [] 0; turns = []; taken = []; last = None }

-- what an insert gives a node that has no neighbour
abbrev pub no_lists : Newcomer → Lists
no_lists n = record { slots = no_neighbours n.m n.level; picks = []; near = [] }

-- ---- the first row of an index

abbrev pub empty_meta : MetaTold
empty_meta = record { entry = None; level = 0; hint = 1; blocks = 1 }

abbrev pub first_node : Params → HeapId → List Bool → ℕ → NewNode
first_node params id bits word = record {
  level = level_of word params.m;
  id = id;
  bits = bits;
  slots = no_neighbours params.m (level_of word params.m);
}

-- the meta tuple is looked at three times: under each gate, and where the lists are looked for
abbrev pub first_insert : Params → HeapId → List Bool → ℕ → Place → List Deed
first_insert params id bits word place =
    asked (Takes Update Shared) Done
    ∷ meta_look empty_meta
    ∷ asked (Releases Update) Done
    ∷ asked (Takes Update Alone) Done
    ∷ meta_look empty_meta
    ∷ meta_look empty_meta
    ∷ asked (PutsNew (first_node params id bits word)) (Placed place)
    ∷ asked (Enters place.at (level_of word params.m)) Done
    ∷ asked (Releases Update) Done
    ∷ []

abbrev pub first_events : Params → HeapId → List Bool → ℕ → Place → List Event
first_events params id bits word place =
    event.Gate Update Shared
    ∷ event.Ungate Update
    ∷ event.Gate Update Alone
    ∷ put_event (first_node params id bits word) place
    ∷ event.Entry (Some place.at) (level_of word params.m)
    ∷ event.Ungate Update
    ∷ []
