-- Which rows of the table the first pass takes out, and by which acts.
use Rattle.std.specs.Prelude.{◌≡◌, ℕ, ◌/◌, ◌%◌, ◌<◌, ◌≤◌, ◌⊎◌, zero, suc, Bool, false, List, [], ◌∷◌, length, take, slice_get, Some}
use Rattle.vec_names.specs.declared.tid.Tid.{Tid}
use Rattle.vec_names.specs.declared.heap_id.HeapId.{HeapId}
use Rattle.vec_history.specs.declared.event.Event.TheVariants as event
use Rattle.vec_history.specs.declared.event.Act.{Act}
use Rattle.vec_history.specs.Acts.{IsActAt}
use Rattle.vec_graph.specs.declared.node.Node.{Node}
use Rattle.vec_graph.specs.declared.graph.Graph.{Graph}
use Rattle.vec_graph.specs.Graph.{node_at}
use Rattle.vec_graph.specs.Effect.{after}
use Rattle.graph_search.specs.Reads.{Seen}
use Rattle.vec_steps.specs.Index.{Index}
use Rattle.hnsw_vacuum.specs.Courses.{IsGraphSo}

-- ---- entries

-- the id of this number, counted from 0, of the node at a place, which is not deleted
pub record IsEntry (g : Graph) (at : Tid) (number : ℕ) (id : HeapId) : Type 0 where
  pub node : Node
  pub stands : node_at g at ≡ Some node
  pub not_deleted : node.deleted ≡ false
  pub is : slice_get node.ids number ≡ Some id

-- the mask names the id of this number, the first by its lowest bit
abbrev pub IsNamed : ℕ → ℕ → Type 0
IsNamed zero mask = mask % 2 ≡ 1
IsNamed (suc k) mask = IsNamed k (mask / 2)

-- The entry was taken out by an act of the desk: a Drop that names it, at a position at which it had still this number.
pub record TakesEntry (base : Graph) (old new : List Act) (desk : ℕ) (at : Tid) (number : ℕ) (id : HeapId) : Type 0 where
  pub position : ℕ
  pub since : length old ≤ position
  pub version : ℕ
  pub gone : ℕ
  pub made : IsActAt new position desk (event.Drop at version gone)
  pub entry : IsEntry (after base (take position new)) at number id
  pub named : IsNamed number gone

-- Of these entries each that stood at the begin, and that the test can't call alive, was taken out; those of places that are not
-- touched stand as they did.
pub record SeesTo (Judged : HeapId → Bool → Type 0) (Among : Tid → ℕ → Type 0) (Touched : Tid → Type 0) (base : Graph)
    (old new : List Act) (desk : ℕ) : Type 0 where
  pub taken : (at : Tid) (number : ℕ) (id : HeapId) → Among at number → IsEntry (after base old) at number id → (Judged id false → ⊥)
      → TakesEntry base old new desk at number id
  pub kept : (at : Tid) (number : ℕ) (id : HeapId) → (Touched at → ⊥) → IsEntry (after base old) at number id
      → IsEntry (after base new) at number id

-- over one base, which is a graph
pub record SeesToOver (Judged : HeapId → Bool → Type 0) (Among : Tid → ℕ → Type 0) (Touched : Tid → Type 0) (old new : List Act) (desk : ℕ)
    (base : Index) : Type 0 where
  pub so : IsGraphSo (λ g. SeesTo Judged Among Touched g old new desk) base

-- ---- of which nodes

-- the entries of a node that a page told
pub record IsOfNode (s : Seen) (at : Tid) (number : ℕ) : Type 0 where
  pub same : at ≡ s.at
  pub not_deleted : s.deleted ≡ false
  pub told : number < length s.ids

abbrev pub IsPlaceOf : Seen → Tid → Type 0
IsPlaceOf s at = at ≡ s.at

abbrev pub IsOfNodes : List Seen → Tid → ℕ → Type 0
IsOfNodes [] at number = ⊥
IsOfNodes (s ∷ seen) at number = IsOfNode s at number ⊎ IsOfNodes seen at number

abbrev pub IsPlaceOfAny : List Seen → Tid → Type 0
IsPlaceOfAny [] at = ⊥
IsPlaceOfAny (s ∷ seen) at = IsPlaceOf s at ⊎ IsPlaceOfAny seen at

-- all entries of the blocks from one on up to another
pub record IsOnBlock (low high : ℕ) (at : Tid) : Type 0 where
  pub from : low ≤ at.block
  pub below : at.block < high

abbrev pub IsOfBlocks : ℕ → ℕ → Tid → ℕ → Type 0
IsOfBlocks low high at number = IsOnBlock low high at
