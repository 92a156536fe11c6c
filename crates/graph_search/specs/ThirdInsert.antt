-- The third row of an index with m 2 and ef 4: 0111 comes to 1/5, where 0000 stands at 1/1, the entry point, and 0011 at 1/3, each of
-- which names the other.
use Rattle.std.specs.Prelude.{Bool, true, false, List, [], ◌∷◌, Some, None}
use Rattle.vec_names.specs.declared.tid.Tid.{Tid}
use Rattle.vec_names.specs.declared.heap_id.HeapId.{HeapId}
use Rattle.vec_names.specs.declared.params.Ops.TheVariants.{Hamming}
use Rattle.bit_dist.specs.Distances.{hamming_of}
use Rattle.neighbour_pick.specs.declared.found.Found.{Found}
use Rattle.neighbour_pick.specs.declared.found.SlotSeen.{SlotSeen}
use Rattle.graph_search.specs.Reads.{Look, AtMeta, AtNode, AtList, Answer, OfMeta}
use Rattle.graph_search.specs.Search.{Turn, Start}
use Rattle.graph_search.specs.Descent.{start_at}
use Rattle.graph_search.specs.Deeds.{Deed, looked, asked, Links, Done}
use Rattle.graph_search.specs.Insert.{Newcomer, Lists, Target}
use Rattle.graph_search.specs.Examples.{zeros, last_two, last_three}
use Rattle.graph_search.specs.Batches.{first, second, third, list_place, row_1, row_2, told_as, one_place}

abbrev pub third_node : Newcomer
third_node = record { ops = Hamming; m = 2; bits = last_three; level = 0; ef = 4; except = None }

-- an element as a search for 0111 finds it
abbrev pub near_third : Tid → HeapId → List Bool → Found
near_third at id bits = record {
  at = at;
  list_at = list_place;
  level = 0;
  version = 1;
  dist = hamming_of last_three bits;
  ids = record { items = id ∷ [] };
  bits = bits;
}

abbrev pub zeros_found : Found
zeros_found = near_third first row_1 zeros

abbrev pub two_found : Found
two_found = near_third second row_2 last_two

abbrev pub third_start : Start
third_start = start_at Hamming last_three (zeros_found ∷ []) 0

abbrev pub third_turns : List Turn
third_turns =
    record { element = zeros_found; list = one_place second; nodes = (second, told_as row_2 last_two) ∷ [] }
    ∷ record { element = two_found; list = one_place first; nodes = [] }
    ∷ []

-- the meta tuple, the entry point, and the lists of both
abbrev pub third_reads : List (Look × Answer)
third_reads =
    (AtMeta, OfMeta (Some first) 0 1 2)
    ∷ (AtNode first 0 None, told_as row_1 zeros)
    ∷ (AtList first list_place 0 1 0, one_place second)
    ∷ (AtNode second 0 None, told_as row_2 last_two)
    ∷ (AtList second list_place 0 1 0, one_place first)
    ∷ []

-- 0011 at distance 1, and then 0000 at 3, which is nearer to that than to the newcomer and fills up
abbrev pub third_lists : Lists
third_lists = record {
  slots = Some second ∷ Some first ∷ None ∷ None ∷ [];
  picks = (0, two_found) ∷ (0, zeros_found) ∷ [];
  near = two_found ∷ zeros_found ∷ [];
}

abbrev pub third_target : Target
third_target = record { ops = Hamming; at = third; bits = last_three }

-- each of the two is looked at with its member, and names the newcomer in its first empty slot
abbrev pub third_links : List Deed
third_links =
    looked (AtList second list_place 0 1 0) (one_place first)
    ∷ looked (AtNode first 0 None) (told_as row_1 zeros)
    ∷ asked (Links second list_place 0 1 0 1 None third) Done
    ∷ looked (AtList first list_place 0 1 0) (one_place second)
    ∷ looked (AtNode second 0 None) (told_as row_2 last_two)
    ∷ asked (Links first list_place 0 1 0 1 None third) Done
    ∷ []

-- a slot that names a node, as its owner's distance sees it; and an empty one
abbrev pub slot_seen : Tid → List Bool → List Bool → SlotSeen
slot_seen at owner bits = record { at = Some at; live = true; dist = hamming_of owner bits; bits = bits }

abbrev pub empty_seen : List Bool → SlotSeen
empty_seen owner = record { at = None; live = false; dist = hamming_of owner owner; bits = owner }
