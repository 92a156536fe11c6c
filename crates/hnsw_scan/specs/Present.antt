-- The rows of a batch were present when they were read.
use Rattle.std.specs.Prelude.{◌≡◌, ◌≤◌, ℕ, Bool, false, List, length, slice_get, Some}
use Rattle.vec_names.specs.declared.params.Ops.{Ops}
use Rattle.bit_dist.specs.Distances.{distance_of}
use Rattle.vec_history.specs.declared.event.Act.{Act}
use Rattle.vec_graph.specs.declared.node.Node.{Node}
use Rattle.vec_graph.specs.declared.graph.Graph.{Graph}
use Rattle.vec_graph.specs.Graph.{node_at}
use Rattle.vec_graph.specs.Effect.{state_after}
use Rattle.neighbour_pick.specs.declared.found.Found.{Found}
use Rattle.graph_search.specs.Scan.{Given, rows_of}

-- At this position a node stands at the element's place that is not deleted, with its version, rows and value; its distance is
-- that of the value.
pub record IsPresentAt (base : Graph) (acts : List Act) (position : ℕ) (ops : Ops) (query : List Bool) (e : Found) : Type 0 where
  pub reached : position ≤ length acts
  pub node : Node
  pub stands : node_at (state_after base acts position) e.at ≡ Some node
  pub not_deleted : node.deleted ≡ false
  pub of_version : node.version ≡ e.version
  pub of_ids : node.ids ≡ e.ids.items
  pub of_bits : node.bits ≡ e.bits
  pub exact : e.dist ≡ distance_of ops query node.bits

-- The row is one of an element that a look of this batch told, by its number, and that was present at the position of that look.
pub record IsAnswered (base : Graph) (acts : List Act) (positions : List ℕ) (ops : Ops) (query : List Bool) (g : Given) : Type 0 where
  pub element : Found
  pub look : ℕ
  pub position : ℕ
  pub looked_at : slice_get positions look ≡ Some position
  pub present : IsPresentAt base acts position ops query element
  pub row : ℕ
  pub of_element : slice_get (rows_of element) row ≡ Some g

abbrev pub AreAnswered : Graph → List Act → List ℕ → Ops → List Bool → List Given → Type 0
AreAnswered base acts positions ops query given =
    (i : ℕ) (g : Given) → slice_get given i ≡ Some g → IsAnswered base acts positions ops query g
