-- Worked graphs of two nodes, at the places 1/1, which is the entry point, and 1/3, where m is 2; and histories of them.
use Rattle.std.specs.Prelude.{ℕ, Bool, true, false, List, [], ◌∷◌, Option, Some, None}
use Rattle.std.specs.FinMap as fin
use Rattle.std.proofs.Common.{lit<, lit≤}
use Rattle.vec_names.specs.declared.tid.Tid.{Tid}
use Rattle.vec_names.specs.declared.heap_id.HeapId.{HeapId}
use Rattle.vec_names.specs.declared.params.Ops.TheVariants.{Hamming}
use Rattle.vec_names.specs.declared.params.Kind.TheVariants.{Hnsw}
use Rattle.vec_history.specs.declared.event.Event.TheVariants as event
use Rattle.vec_history.specs.declared.event.Act.{Act}
use Rattle.vec_history.specs.declared.gate.Gate.TheVariants.{Update, Scan}
use Rattle.vec_history.specs.declared.gate.Hold.TheVariants.{Shared, Alone}
use Rattle.vec_history.specs.Acts.{act_of}
use Rattle.vec_graph.specs.declared.node.Node.{Node}
use Rattle.vec_graph.specs.declared.graph.Graph.{Graph}

-- ---- graphs

abbrev pub first : Tid
first = record { block = 1; off = 1; within_blocks = lit< tt; counted_from_one = lit≤ tt; in_two_bytes = lit< tt }

abbrev pub second : Tid
second = record { block = 1; off = 3; within_blocks = lit< tt; counted_from_one = lit≤ tt; in_two_bytes = lit< tt }

-- nothing stands here
abbrev pub third : Tid
third = record { block = 1; off = 5; within_blocks = lit< tt; counted_from_one = lit≤ tt; in_two_bytes = lit< tt }

abbrev pub list_place : Tid
list_place = record { block = 1; off = 2; within_blocks = lit< tt; counted_from_one = lit≤ tt; in_two_bytes = lit< tt }

abbrev pub row : HeapId
row = record { block = 1; off = 1; within_blocks = lit< tt; counted_from_one = lit≤ tt; in_two_bytes = lit< tt }

abbrev pub nobody : List (Option Tid)
nobody = None ∷ None ∷ None ∷ None ∷ []

abbrev pub naming : Tid → List (Option Tid)
naming to = Some to ∷ None ∷ None ∷ None ∷ []

abbrev pub node_of : ℕ → Bool → List HeapId → List (Option Tid) → Node
node_of level deleted ids slots = record {
  level = level;
  version = 1;
  deleted = deleted;
  bits = false ∷ false ∷ false ∷ false ∷ [];
  ids = ids;
  list_at = list_place;
  slots = slots;
}

-- nodes of level 0 with these slots
abbrev pub live : List (Option Tid) → Node
live slots = node_of 0 false (row ∷ []) slots

abbrev pub doomed : List (Option Tid) → Node
doomed slots = node_of 0 false [] slots

abbrev pub deleted : List (Option Tid) → Node
deleted slots = node_of 0 true [] slots

-- of level 1, with this place in the first slot of layer 1
abbrev pub high_naming : Tid → Node
high_naming to = node_of 1 false (row ∷ []) (Some to ∷ None ∷ nobody)

-- the one stands at 1/1, the other at 1/3
abbrev pub pair : Node → Node → Graph
pair one two = record {
  params = record { kind = Hnsw; ops = Hamming; bits = 4; m = 2; ef = 4; lists = 0 };
  nodes = fin.insert (fin.insert fin.empty first one) second two;
  entry = Some first;
  level = one.level;
  hint = 1;
  blocks = 2;
}

-- 1/1 is live and names the doomed 1/3
abbrev pub names_doomed : Graph
names_doomed = pair (live (naming second)) (doomed nobody)

-- ---- histories

-- desk 1 begins a scan; then desk 2 gives 1/1 a list without members; then desk 3 begins a scan
abbrev pub scans : List Act
scans =
    act_of 1 (event.Gate Scan Shared)
    ∷ act_of 2 (event.Relist first list_place 1 nobody)
    ∷ act_of 3 (event.Gate Scan Shared)
    ∷ []

-- desk 1 takes Update alone twice, and a Drop comes between
abbrev pub drops : List Act
drops =
    act_of 1 (event.Gate Update Alone)
    ∷ act_of 1 (event.Drop second 1 1)
    ∷ act_of 1 (event.Gate Update Alone)
    ∷ []

-- behind a barrier 1/1 gets a list without members, and then a desk takes Scan alone
abbrev pub repairs : List Act
repairs =
    act_of 1 (event.Gate Update Alone)
    ∷ act_of 1 (event.Relist first list_place 1 nobody)
    ∷ act_of 1 (event.Gate Scan Alone)
    ∷ []
