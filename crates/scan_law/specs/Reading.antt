-- Reads that a desk made while it held the gate Scan, and the places that they named.
use Rattle.std.specs.Prelude.{ℕ, Bool, ◌+◌, ◌≤◌, List, [], ◌∷◌, length, take, Option, Some, None}
use Rattle.vec_names.specs.declared.tid.Tid.{Tid}
use Rattle.vec_names.specs.declared.params.Ops.{Ops}
use Rattle.vec_history.specs.declared.event.Act.{Act}
use Rattle.vec_history.specs.declared.gate.Gate.TheVariants.{Scan}
use Rattle.vec_history.specs.declared.gate.Hold.{Hold}
use Rattle.vec_history.specs.Acts.{IsRising}
use Rattle.vec_history.specs.Gates.{HoldsSince}
use Rattle.vec_graph.specs.declared.graph.Graph.{Graph}
use Rattle.graph_search.specs.Reads.{Look, Answer, Gone, OfMeta, OfNode, OfList, OfPage, AreReadAt}
use Rattle.graph_search.specs.Search.{filled}
use Rattle.graph_search.specs.Scan.{Given, Standing, FirstBatch}

-- The desk took Scan by the act `since`, still held it at the position `until`, and between these its reads were answered, at positions
-- that do not fall.
pub record AreReadUnder (base : Graph) (acts : List Act) (desk since until : ℕ) (positions : List ℕ) (reads : List (Look × Answer))
    : Type 0 where
  pub hold : Hold
  pub holds : HoldsSince (take until acts) desk Scan hold since
  pub reached : until ≤ length acts
  pub rising : IsRising (since + 1) positions until
  pub answered : AreReadAt base acts positions reads

-- these reads are those of a scan's first batch
pub record IsFirstBatchUnder (base : Graph) (acts : List Act) (desk since until : ℕ) (positions : List ℕ) (reads : List (Look × Answer))
    : Type 0 where
  pub ops : Ops
  pub query : List Bool
  pub ef : ℕ
  pub given : List Given
  pub end : Bool
  pub now : Standing
  pub batch : FirstBatch ops query ef reads given end now
  pub under : AreReadUnder base acts desk since until positions reads

abbrev pub entry_named : Option Tid → List Tid
entry_named None = []
entry_named (Some at) = at ∷ []

-- the places that an answer names: the entry point, and the members of a layer
abbrev pub places_named : Answer → List Tid
places_named (OfMeta entry level hint blocks) = entry_named entry
places_named (OfList slots) = filled slots
places_named Gone = []
places_named (OfNode level version list_at ids bits) = []
places_named (OfPage nodes) = []
