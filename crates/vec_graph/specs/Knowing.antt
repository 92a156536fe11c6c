-- What a desk knows.
use Rattle.std.specs.Prelude.{◌<◌, ◌≤◌, ℕ, List, length}
use Rattle.vec_names.specs.declared.tid.Tid.{Tid}
use Rattle.vec_history.specs.declared.event.Act.{Act}
use Rattle.vec_history.specs.declared.gate.Gate.TheVariants.{Update}
use Rattle.vec_history.specs.declared.gate.Hold.{Hold}
use Rattle.vec_history.specs.Gates.{HoldsSince}
use Rattle.vec_graph.specs.declared.graph.Graph.{Graph}
use Rattle.vec_graph.specs.Graph.{IsLiveAt}
use Rattle.vec_graph.specs.Effect.{state_after}

-- The desk knows a node up to a layer: it holds Update, and at some position since it took it the node was live and reached that layer.
pub record Knows (base : Graph) (acts : List Act) (desk : ℕ) (at : Tid) (layer : ℕ) : Type 0 where
  pub hold : Hold
  pub since : ℕ
  pub holds : HoldsSince acts desk Update hold since
  pub position : ℕ
  pub later : since < position
  pub met : position ≤ length acts
  pub was_live : IsLiveAt (state_after base acts position) at layer

-- some desk knows the node up to some layer
pub record IsKnown (base : Graph) (acts : List Act) (at : Tid) : Type 0 where
  pub desk : ℕ
  pub layer : ℕ
  pub knows : Knows base acts desk at layer
