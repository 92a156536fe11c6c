-- The counts of an index, and what one node adds to each.
use Rattle.std.specs.Prelude.{◌≡◌, ℕ, ◌+◌, ◌≤◌, Bool, true, false, List, [], ◌∷◌, length, sum_by}
use Rattle.std.specs.FinMap.{values}
use Rattle.vec_names.specs.declared.heap_id.HeapId.{HeapId}
use Rattle.vec_history.specs.declared.event.Act.{Act}
use Rattle.vec_graph.specs.declared.graph.Graph.{Graph}
use Rattle.vec_graph.specs.Effect.{after}
use Rattle.script_words.specs.declared.reply.Counts.{Counts}
use Rattle.vec_steps.specs.declared.seen.Seen.{Seen}
use Rattle.vec_steps.specs.Index.{Index, OfNodes}
use Rattle.vec_steps.specs.Desks.{Desk}
use Rattle.vec_steps.specs.Calls.{DoesSo, Looks}

-- 1 of a live node, which has rows, and else 0
abbrev pub live_in : Bool → List HeapId → ℕ
live_in false (id ∷ ids) = 1
live_in _ _ = 0

-- 1 of a doomed node, which has none and is not deleted yet
abbrev pub doomed_in : Bool → List HeapId → ℕ
doomed_in false [] = 1
doomed_in _ _ = 0

abbrev pub deleted_in : Bool → List HeapId → ℕ
deleted_in true ids = 1
deleted_in false ids = 0

-- the rows of a node that is not deleted
abbrev pub rows_in : Bool → List HeapId → ℕ
rows_in true ids = 0
rows_in false ids = length ids

-- the blocks of a graph, all its nodes, those of each kind, and its rows
abbrev pub counts_of : Graph → Counts
counts_of g = record {
  blocks = g.blocks;
  nodes = length (values g.nodes);
  live = sum_by (λ n. live_in n.deleted n.ids) (values g.nodes);
  doomed = sum_by (λ n. doomed_in n.deleted n.ids) (values g.nodes);
  deleted = sum_by (λ n. deleted_in n.deleted n.ids) (values g.nodes);
  entries = sum_by (λ n. rows_in n.deleted n.ids) (values g.nodes);
}

-- A call that only looked told these counts. Where no act came meanwhile, they are those of the graph.
pub record CountsNodes (over : Index → Type 0) (d : Desk) (old new : List Act) (counts : Counts) : Type 0 where
  pub looked : DoesSo Looks over d old new
  pub exact : (g : Graph) → over (OfNodes g) → new ≡ old → counts ≡ counts_of (after g old)

-- ---- page after page

-- so many blocks are there
abbrev pub HasBlocks : List Act → ℕ → Graph → Type 0
HasBlocks acts blocks g = blocks ≤ (after g acts).blocks

abbrev pub with_seen : Counts → Seen → Counts
with_seen c s = record {
  blocks = c.blocks;
  nodes = c.nodes + 1;
  live = c.live + live_in s.deleted s.ids.items;
  doomed = c.doomed + doomed_in s.deleted s.ids.items;
  deleted = c.deleted + deleted_in s.deleted s.ids.items;
  entries = c.entries + rows_in s.deleted s.ids.items;
}

abbrev pub with_all : Counts → List Seen → Counts
with_all c [] = c
with_all c (s ∷ seen) = with_all (with_seen c s) seen
