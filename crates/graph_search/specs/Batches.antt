-- Worked batches for the query 0000 with ef 1. Three nodes of level 0 stand at 1/1, 1/3 and 1/5, and 1/1 is the entry point; m is 2.
use Rattle.std.specs.Prelude.{Bool, List, [], ◌∷◌, Some, None}
use Rattle.std.proofs.Common.{lit<, lit≤}
use Rattle.vec_names.specs.declared.tid.Tid.{Tid}
use Rattle.vec_names.specs.declared.heap_id.HeapId.{HeapId}
use Rattle.vec_names.specs.declared.params.Ops.TheVariants.{Hamming}
use Rattle.bit_dist.specs.Distances.{hamming_of}
use Rattle.bit_dist.specs.declared.dist.Dist.{Dist}
use Rattle.neighbour_pick.specs.declared.found.Found.{Found}
use Rattle.graph_search.specs.Reads.{Look, AtMeta, AtNode, AtList, Answer, Gone, OfMeta, OfNode, OfList}
use Rattle.graph_search.specs.Search.{Turn, Start}
use Rattle.graph_search.specs.Descent.{start_at}
use Rattle.graph_search.specs.Scan.{Given, Standing}
use Rattle.graph_search.specs.Examples.{zeros, last_one, last_two, last_three}

-- ---- the nodes

abbrev pub first : Tid
first = record { block = 1; off = 1; within_blocks = lit< tt; counted_from_one = lit≤ tt; in_two_bytes = lit< tt }

abbrev pub second : Tid
second = record { block = 1; off = 3; within_blocks = lit< tt; counted_from_one = lit≤ tt; in_two_bytes = lit< tt }

abbrev pub third : Tid
third = record { block = 1; off = 5; within_blocks = lit< tt; counted_from_one = lit≤ tt; in_two_bytes = lit< tt }

-- all looks here tell one place of lists, which no example rests on
abbrev pub list_place : Tid
list_place = record { block = 1; off = 2; within_blocks = lit< tt; counted_from_one = lit≤ tt; in_two_bytes = lit< tt }

abbrev pub row_1 : HeapId
row_1 = record { block = 1; off = 1; within_blocks = lit< tt; counted_from_one = lit≤ tt; in_two_bytes = lit< tt }

abbrev pub row_2 : HeapId
row_2 = record { block = 1; off = 2; within_blocks = lit< tt; counted_from_one = lit≤ tt; in_two_bytes = lit< tt }

abbrev pub row_3 : HeapId
row_3 = record { block = 1; off = 3; within_blocks = lit< tt; counted_from_one = lit≤ tt; in_two_bytes = lit< tt }

abbrev pub element : Tid → HeapId → List Bool → Found
element at id bits = record {
  at = at;
  list_at = list_place;
  level = 0;
  version = 1;
  dist = hamming_of zeros bits;
  ids = record { items = id ∷ [] };
  bits = bits;
}

-- what a look at it tells
abbrev pub told_as : HeapId → List Bool → Answer
told_as id bits = OfNode 0 1 list_place (id ∷ []) bits

abbrev pub one_place : Tid → Answer
one_place p = OfList (Some p ∷ None ∷ None ∷ None ∷ [])

abbrev pub two_places : Tid → Tid → Answer
two_places p q = OfList (Some p ∷ Some q ∷ None ∷ None ∷ [])

abbrev pub given_of : Tid → HeapId → List Bool → Given
given_of at id bits = record { id = id; dist = hamming_of zeros bits; at = at; version = 1 }

abbrev pub look_again : Tid → Answer → Look × Answer
look_again at told = (AtNode at 0 (Some 1), told)

-- ---- another row comes between two batches

-- the values 0011 at 1/1 and 0111 at 1/3, which name each other
abbrev pub near_one : Found
near_one = element first row_1 last_two

abbrev pub far_one : Found
far_one = element second row_2 last_three

abbrev pub from_near : Start
from_near = start_at Hamming zeros (near_one ∷ []) 0

-- 1/1 is expanded, and 1/3 becomes known
abbrev pub near_turn : Turn
near_turn = record { element = near_one; list = one_place second; nodes = (second, told_as row_2 last_three) ∷ [] }

abbrev pub first_reads : List (Look × Answer)
first_reads =
    (AtMeta, OfMeta (Some first) 0 1 2)
    ∷ (AtNode first 0 None, told_as row_1 last_two)
    ∷ (AtList first list_place 0 1 0, one_place second)
    ∷ (AtNode second 0 None, told_as row_2 last_three)
    ∷ []

-- where the scan stands after its first batch, which gave the row of 1/1 at 2
abbrev pub after_first : Standing
after_first = record { start = from_near; turns = near_turn ∷ []; taken = first ∷ []; last = Some (hamming_of zeros last_two) }

-- 0001 has come to 1/5 since, and 1/3 names it
abbrev pub come_between : List Turn
come_between =
    record { element = far_one; list = two_places first third; nodes = (third, told_as row_3 last_one) ∷ [] }
    ∷ record { element = element third row_3 last_one; list = two_places first second; nodes = [] }
    ∷ []

abbrev pub second_reads : List (Look × Answer)
second_reads =
    (AtList second list_place 0 1 0, two_places first third)
    ∷ (AtNode third 0 None, told_as row_3 last_one)
    ∷ (AtList third list_place 0 1 0, two_places first second)
    ∷ []

-- after the second batch: a scan that gave no row still has the distance of the first one
abbrev pub after_second : Dist → Standing
after_second last = record { start = from_near; turns = near_turn ∷ come_between; taken = first ∷ third ∷ []; last = Some last }

abbrev pub after_third : Standing
after_third = record {
  start = from_near;
  turns = near_turn ∷ come_between;
  taken = first ∷ third ∷ second ∷ [];
  last = Some (hamming_of zeros last_three);
}

-- ---- a place is used anew between two batches

-- the values 0000 at 1/1, 0011 at 1/3 and 0111 at 1/5
abbrev pub from_zeros : Start
from_zeros = start_at Hamming zeros (element first row_1 zeros ∷ []) 0

abbrev pub zeros_turn : Turn
zeros_turn = record {
  element = element first row_1 zeros;
  list = two_places second third;
  nodes = (second, told_as row_2 last_two) ∷ (third, told_as row_3 last_three) ∷ [];
}

abbrev pub before_reuse : Standing
before_reuse = record { start = from_zeros; turns = zeros_turn ∷ []; taken = first ∷ []; last = Some (hamming_of zeros zeros) }

-- the node that was met at 1/3 is gone, with its list
abbrev pub gone_turn : Turn
gone_turn = record { element = element second row_2 last_two; list = Gone; nodes = [] }

abbrev pub after_reuse : Standing
after_reuse = record {
  start = from_zeros;
  turns = zeros_turn ∷ gone_turn ∷ [];
  taken = first ∷ second ∷ [];
  last = Some (hamming_of zeros zeros);
}
