-- Graphs that are sound also from further places.
use Rattle.std.specs.Prelude.{◌≡◌, Some}
use Rattle.vec_names.specs.declared.tid.Tid.{Tid}
use Rattle.vec_graph.specs.declared.graph.Graph.{Graph}
use Rattle.vec_graph.specs.Graph.{IsLiveAt}
use Rattle.vec_graph.specs.Sound.{IsSoundFrom}

-- the entry point, a live node, or one of further places
pub data IsRootWith (g : Graph) (More : Tid → Type 0) : Tid → Type 0 where
  is_entry : (at : Tid) → g.entry ≡ Some at → IsRootWith g More at
  is_live : (at : Tid) → IsLiveAt g at 0 → IsRootWith g More at
  is_more : (at : Tid) → More at → IsRootWith g More at

-- sound also from further places; the sound graphs are those that are so from no further ones
abbrev pub IsSoundWith : Graph → (Tid → Type 0) → Type 0
IsSoundWith g More = IsSoundFrom g (IsRootWith g More)
