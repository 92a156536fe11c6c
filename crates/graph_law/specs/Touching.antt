-- What a scan may have touched.
use Rattle.std.specs.Prelude.{◌≡◌, ℕ, ◌<◌, ◌≤◌, List, length, Some}
use Rattle.vec_names.specs.declared.tid.Tid.{Tid}
use Rattle.vec_history.specs.declared.event.Act.{Act}
use Rattle.vec_graph.specs.declared.graph.Graph.{Graph}
use Rattle.vec_graph.specs.Graph.{IsLiveAt, HasMember}
use Rattle.vec_graph.specs.Effect.{state_after}

-- The place is touched at a position since this act: it is the entry point or live there, or a node that was touched
-- there or before names it there.
pub data IsTouchedAt (base : Graph) (acts : List Act) (since : ℕ) : ℕ → Tid → Type 0 where
  as_entry : (p : ℕ) (at : Tid) → since < p → p ≤ length acts → (state_after base acts p).entry ≡ Some at → IsTouchedAt base acts since p at
  as_live : (p : ℕ) (at : Tid) → since < p → p ≤ length acts → IsLiveAt (state_after base acts p) at 0 → IsTouchedAt base acts since p at
  as_member : (before : ℕ) (p : ℕ) (at : Tid) (layer : ℕ) (to : Tid) → IsTouchedAt base acts since before at → before ≤ p → p ≤ length acts
      → HasMember (state_after base acts p) at layer to → IsTouchedAt base acts since p to

-- at some position
pub record IsTouched (base : Graph) (acts : List Act) (since : ℕ) (at : Tid) : Type 0 where
  pub position : ℕ
  pub is : IsTouchedAt base acts since position at
