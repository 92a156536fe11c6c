-- A worked index: four rows of four places in three lists.
use Rattle.std.specs.Prelude.{ℕ, ◌==◌, ◌&&◌, Bool, true, false, List, [], ◌∷◌, Some}
use Rattle.std.proofs.Common.{lit<, lit≤}
use Rattle.vec_names.specs.declared.heap_id.HeapId.{HeapId}
use Rattle.bit_dist.specs.declared.dist.Dist.{Dist}
use Rattle.bit_dist.specs.Distances.{one_positive}
use Rattle.vec_history.specs.declared.event.Event.TheVariants as event
use Rattle.vec_history.specs.declared.event.Act.{Act}
use Rattle.vec_history.specs.declared.gate.Gate.TheVariants.{Vacuum}
use Rattle.vec_history.specs.declared.gate.Hold.TheVariants.{Alone}
use Rattle.vec_history.specs.Acts.{act_of}
use Rattle.ivf_graph.specs.declared.list.IvfList.{IvfList}
use Rattle.ivf_graph.specs.declared.graph.IvfGraph.{IvfGraph}
use Rattle.ivf_graph.specs.Effect.{after}
use Rattle.ivf_graph.specs.Looks.{Centre}

abbrev pub four : Bool → Bool → Bool → Bool → List Bool
four a b c d = a ∷ b ∷ c ∷ d ∷ []

-- the rows of the table's block 1, at the offsets 1 to 5
abbrev pub row_1 : HeapId
row_1 = record { block = 1; off = 1; within_blocks = lit< tt; counted_from_one = lit≤ tt; in_two_bytes = lit< tt }

abbrev pub row_2 : HeapId
row_2 = record { block = 1; off = 2; within_blocks = lit< tt; counted_from_one = lit≤ tt; in_two_bytes = lit< tt }

abbrev pub row_3 : HeapId
row_3 = record { block = 1; off = 3; within_blocks = lit< tt; counted_from_one = lit≤ tt; in_two_bytes = lit< tt }

abbrev pub row_4 : HeapId
row_4 = record { block = 1; off = 4; within_blocks = lit< tt; counted_from_one = lit≤ tt; in_two_bytes = lit< tt }

abbrev pub row_5 : HeapId
row_5 = record { block = 1; off = 5; within_blocks = lit< tt; counted_from_one = lit≤ tt; in_two_bytes = lit< tt }

-- n unequal places
abbrev pub unequal_by : ℕ → Dist
unequal_by n = record { num = n; den = 1; positive = one_positive }

abbrev pub list_on : ℕ → List Bool → List (HeapId × List Bool) → IvfList
list_on block centre rows = record { centre = centre; aim = block; chain = (block, rows) ∷ [] }

-- the rows 0000, 0001, 1111 and 1110 in lists with the centres 0000, 1110 and 0001, on the blocks 2 to 4
abbrev pub worked_index : IvfGraph
worked_index = record {
  lists =
      list_on 2 (four false false false false) ((row_1, four false false false false) ∷ [])
      ∷ list_on 3 (four true true true false) ((row_3, four true true true true) ∷ (row_4, four true true true false) ∷ [])
      ∷ list_on 4 (four false false false true) ((row_2, four false false false true) ∷ [])
      ∷ [];
  blocks = 5;
}

-- a further row, with the value 0110, comes on block 3
abbrev pub worked_acts : List Act
worked_acts = act_of 1 (event.IvfAdd 3 row_5 (four false true true false)) ∷ []

-- what a look at block 1 tells
abbrev pub worked_centres : List Centre
worked_centres =
    record { list = 0; bits = four false false false false; aim = 2; first = Some 2 }
    ∷ record { list = 1; bits = four true true true false; aim = 3; first = Some 3 }
    ∷ record { list = 2; bits = four false false false true; aim = 4; first = Some 4 }
    ∷ []

-- list 1 grows by block 5, where that row comes, and aims at it
abbrev pub growing_acts : List Act
growing_acts = act_of 1 (event.IvfGrow 1 3 5 row_5 (four false true true false)) ∷ act_of 1 (event.IvfHint 1 5) ∷ []

abbrev pub grown_index : IvfGraph
grown_index = after worked_index growing_acts

-- the row 1/3 is called dead
abbrev pub is_row_3 : HeapId → Bool
is_row_3 id = (id.block == 1) && (id.off == 3)

-- a vacuum cuts it, and list 1 comes to aim at its block
abbrev pub vacuum_acts : List Act
vacuum_acts =
    act_of 1 (event.Gate Vacuum Alone) ∷ act_of 1 (event.IvfDrop 3 (1 ∷ [])) ∷ act_of 1 (event.IvfHint 1 3)
    ∷ act_of 1 (event.Ungate Vacuum) ∷ []
