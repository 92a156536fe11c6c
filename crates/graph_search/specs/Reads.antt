-- What a read tells, and the reads of a history: each is answered by the state at its own position.
use Rattle.std.specs.Prelude.{◌≡◌, ℕ, ◌≤◌, ◌==◌, ◌||◌, not, nat_lt, if◌then◌else◌, ⊤, Bool, true, List, [], ◌∷◌, length, filter, map, Option, Some, None}
use Rattle.std.specs.FinMap as fin
use Rattle.vec_names.specs.declared.tid.Tid.{Tid}
use Rattle.vec_names.specs.declared.heap_id.HeapId.{HeapId}
use Rattle.vec_history.specs.declared.event.Act.{Act}
use Rattle.vec_graph.specs.declared.node.Node.{Node}
use Rattle.vec_graph.specs.declared.graph.Graph.{Graph}
use Rattle.vec_graph.specs.Graph.{node_at, layer_slots}
use Rattle.vec_graph.specs.Effect.{state_after}

-- ---- looks and answers

-- a look at the meta tuple; at a node that reaches a layer, of any version or of one; at one layer of a node's list; at a page
pub data Look : Type 0 where
  AtMeta : Look
  AtNode : (at : Tid) (layer : ℕ) (version : Option ℕ) → Look
  AtList : (at list_at : Tid) (level version layer : ℕ) → Look
  AtPage : (block : ℕ) → Look

-- a node as a look at its page tells it
pub record Seen : Type 0 where
  pub at : Tid
  pub level : ℕ
  pub version : ℕ
  pub deleted : Bool
  pub ids : List HeapId

pub data Answer : Type 0 where
  Gone : Answer
  OfMeta : (entry : Option Tid) (level hint blocks : ℕ) → Answer
  OfNode : (level version : ℕ) (list_at : Tid) (ids : List HeapId) (bits : List Bool) → Answer
  OfList : (slots : List (Option Tid)) → Answer
  OfPage : (nodes : List Seen) → Answer

-- ---- what a graph answers

abbrev pub is_version : Option ℕ → ℕ → Bool
is_version None version = true
is_version (Some wanted) version = wanted == version

-- gone: none stands there, or it is deleted, or lower than the layer, or of another version
abbrev pub node_answer : Option Node → ℕ → Option ℕ → Answer
node_answer None layer version = Gone
node_answer (Some n) layer version =
    if n.deleted || (nat_lt n.level layer || not (is_version version n.version)) then Gone
    else OfNode n.level n.version n.list_at n.ids n.bits

-- gone: it is deleted, or of another version
abbrev pub list_answer : ℕ → Option Node → ℕ → ℕ → Answer
list_answer m None version layer = Gone
list_answer m (Some n) version layer =
    if n.deleted || not (n.version == version) then Gone else OfList (layer_slots m n.level layer n.slots)

abbrev pub seen_of : (Tid × Node) → Seen
seen_of e = record { at = e.0; level = e.1.level; version = e.1.version; deleted = e.1.deleted; ids = e.1.ids }

-- the nodes of a page by their offsets, deleted ones too
abbrev pub nodes_on : Graph → ℕ → List Seen
nodes_on g block = map seen_of (filter (λ e. e.0.block == block) (fin.entries g.nodes))

abbrev pub answer_of : Graph → Look → Answer
answer_of g AtMeta = OfMeta g.entry g.level g.hint g.blocks
answer_of g (AtNode at layer version) = node_answer (node_at g at) layer version
answer_of g (AtList at list_at level version layer) = list_answer g.params.m (node_at g at) version layer
answer_of g (AtPage block) = OfPage (nodes_on g block)

-- ---- reads of a history

-- each read was answered by the state at its own position, which the history reaches
abbrev pub AreReadAt : Graph → List Act → List ℕ → List (Look × Answer) → Type 0
AreReadAt base acts [] [] = ⊤
AreReadAt base acts [] (r ∷ reads) = ⊥
AreReadAt base acts (n ∷ positions) [] = ⊥
AreReadAt base acts (n ∷ positions) (r ∷ reads) =
    ((n ≤ length acts) × (r.1 ≡ answer_of (state_after base acts n) r.0)) × AreReadAt base acts positions reads
