-- The graphs that a history goes through.
use Rattle.std.specs.Prelude.{◌≡◌, ℕ, ◌+◌, ◌≤◌, List, length, slice_get, Some}
use Rattle.vec_history.specs.declared.event.Act.{Act}
use Rattle.vec_graph.specs.declared.graph.Graph.{Graph}
use Rattle.vec_graph.specs.Effect.{state_after}

-- the graph before any act, and that after each of them
pub record AreStates (base : Graph) (acts : List Act) (states : List Graph) : Type 0 where
  pub as_many : length states ≡ length acts + 1
  pub each : (n : ℕ) → n ≤ length acts → slice_get states n ≡ Some (state_after base acts n)
