-- The third row of the worked index: all of it is computed.
use Rattle.std.proofs.Common.{Bool, List, [], ◌∷◌, ◌++◌, Some, None, refl}
use Rattle.bit_code.specs.Places.{tally}
use Rattle.vec_names.specs.declared.tid.Tid.{Tid}
use Rattle.vec_names.specs.declared.heap_id.HeapId.{HeapId}
use Rattle.vec_names.specs.declared.params.Ops.TheVariants.{Hamming}
use Rattle.neighbour_pick.specs.declared.found.Found.{Found}
use Rattle.graph_search.specs.Reads.{AtNode, AtList}
use Rattle.graph_search.specs.Search.{Turn, IsTurn, only_ef, LayerSearch, course_reads}
use Rattle.graph_search.specs.Descent.{lowered}
use Rattle.graph_search.specs.Deeds.{Deed, looked, asked, Links, Done}
use Rattle.bit_dist.specs.Distances.{hamming_of}
use Rattle.graph_search.specs.Insert.{InsertLists, empty, member, AreSlots, ListLooked, linked, Tries, LinksBack}
use Rattle.graph_search.specs.Examples.{zeros, last_two}
use Rattle.graph_search.specs.Batches.{first, second, third, list_place, row_1, row_2, told_as, one_place}
use Rattle.graph_search.specs.ThirdInsert.{third_node, zeros_found, two_found, third_start, third_turns, third_reads, third_lists, third_target, third_links, slot_seen, empty_seen}

turn_1 : Turn
turn_1 = record { element = zeros_found; list = one_place second; nodes = (second, told_as row_2 last_two) ∷ [] }

turn_2 : Turn
turn_2 = record { element = two_found; list = one_place first; nodes = [] }

is_turn_1 : IsTurn third_start (only_ef 4) [] turn_1
unfolding tally turn_1
is_turn_1 = record { goes_on = refl; rest = []; least = refl; looks = refl }

is_turn_2 : IsTurn third_start (only_ef 4) (turn_1 ∷ []) turn_2
unfolding tally turn_1 turn_2
is_turn_2 = record { goes_on = refl; rest = []; least = refl; looks = refl }

third_search : LayerSearch third_start 4 (course_reads 0 third_turns) (two_found ∷ zeros_found ∷ [])
unfolding tally turn_1 turn_2
third_search = record { turns = third_turns; course = (is_turn_1, (is_turn_2, tt)); halted = refl; reads_are = refl; result_is = refl }

pub lists_of_third : InsertLists third_node third_reads (Some 0) third_lists
unfolding tally
lists_of_third = record {
  down = _;
  from = zeros_found ∷ [];
  descent = lowered first 0 1 2 (told_as row_1 zeros) zeros_found [] (zeros_found ∷ []) refl (refl, refl);
  on = course_reads 0 third_turns;
  searched = record {
    found = third_lists;
    down = record {
      first = course_reads 0 third_turns;
      found = two_found ∷ zeros_found ∷ [];
      search = third_search;
      later = [];
      below = record { slots = []; picks = []; near = [] };
      deeper_is = (refl, refl);
      reads_are = refl;
      slots_are = refl;
      picks_are = refl;
      near_is = refl;
    };
    lists_are = refl;
  };
  reads_are = refl;
}

-- ---- the links back

-- of an owner's four slots the first names a node, and the others none
module _ (owner : List Bool) (to : Tid) (id : HeapId) (bits : List Bool) where
  element_seen : Found
  element_seen = record {
    at = to;
    list_at = list_place;
    level = 0;
    version = 1;
    dist = hamming_of owner bits;
    ids = record { items = id ∷ [] };
    bits = bits;
  }

  three_empty : AreSlots Hamming owner 0 (None ∷ None ∷ None ∷ []) [] (empty_seen owner ∷ empty_seen owner ∷ empty_seen owner ∷ [])
  three_empty = (
    [],
    [],
    empty_seen owner,
    empty_seen owner ∷ empty_seen owner ∷ [],
    refl,
    refl,
    empty (empty_seen owner) refl,
    (
      [],
      [],
      empty_seen owner,
      empty_seen owner ∷ [],
      refl,
      refl,
      empty (empty_seen owner) refl,
      ([], [], empty_seen owner, [], refl, refl, empty (empty_seen owner) refl, (refl, refl)),
    ),
  )

  four_slots : AreSlots Hamming owner 0 (Some to ∷ None ∷ None ∷ None ∷ []) ((AtNode to 0 None, told_as id bits) ∷ [])
      (slot_seen to owner bits ∷ empty_seen owner ∷ empty_seen owner ∷ empty_seen owner ∷ [])
  unfolding element_seen
  four_slots = (
    (AtNode to 0 None, told_as id bits) ∷ [],
    [],
    slot_seen to owner bits,
    empty_seen owner ∷ empty_seen owner ∷ empty_seen owner ∷ [],
    refl,
    refl,
    member to (told_as id bits) element_seen (slot_seen to owner bits) refl refl refl refl refl,
    three_empty,
  )

second_links : List Deed
second_links = looked (AtList second list_place 0 1 0) (one_place first) ∷ looked (AtNode first 0 None) (told_as row_1 zeros) ∷ []

first_links : List Deed
first_links = looked (AtList first list_place 0 1 0) (one_place second) ∷ looked (AtNode second 0 None) (told_as row_2 last_two) ∷ []

second_looked : ListLooked third_target two_found 0 second_links (Some first ∷ None ∷ None ∷ None ∷ []) (Some 1)
unfolding tally second_links
second_looked = record {
  reads = (AtNode first 0 None, told_as row_1 zeros) ∷ [];
  seen = slot_seen first last_two zeros ∷ empty_seen last_two ∷ empty_seen last_two ∷ empty_seen last_two ∷ [];
  slots_are = four_slots last_two first row_1 zeros;
  choice_is = refl;
  deeds_are = refl;
}

first_looked : ListLooked third_target zeros_found 0 first_links (Some second ∷ None ∷ None ∷ None ∷ []) (Some 1)
unfolding tally first_links
first_looked = record {
  reads = (AtNode second 0 None, told_as row_2 last_two) ∷ [];
  seen = slot_seen second zeros last_two ∷ empty_seen zeros ∷ empty_seen zeros ∷ empty_seen zeros ∷ [];
  slots_are = four_slots zeros second row_2 last_two;
  choice_is = refl;
  deeds_are = refl;
}

second_try : Tries third_target two_found 0 3
    (second_links ++ asked (Links second list_place 0 1 0 1 None third) Done ∷ [])
second_try = linked second_links (Some first ∷ None ∷ None ∷ None ∷ []) 1 second_looked

first_try : Tries third_target zeros_found 0 3
    (first_links ++ asked (Links first list_place 0 1 0 1 None third) Done ∷ [])
first_try = linked first_links (Some second ∷ None ∷ None ∷ None ∷ []) 1 first_looked

pub links_of_third : LinksBack third_target third_lists.picks third_links
unfolding second_links first_links
links_of_third = (
  second_links ++ asked (Links second list_place 0 1 0 1 None third) Done ∷ [],
  first_links ++ asked (Links first list_place 0 1 0 1 None third) Done ∷ [],
  refl,
  second_try,
  (first_links ++ asked (Links first list_place 0 1 0 1 None third) Done ∷ [], [], refl, first_try, refl),
)
