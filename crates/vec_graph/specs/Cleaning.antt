-- What the repair of a vacuum has to have cleaned before its last pass.
use Rattle.std.specs.Prelude.{◌≡◌, ℕ, ◌≤◌, List, take, Some}
use Rattle.vec_names.specs.declared.tid.Tid.{Tid}
use Rattle.vec_history.specs.declared.event.Act.{Act}
use Rattle.vec_history.specs.declared.gate.Gate.TheVariants.{Scan}
use Rattle.vec_history.specs.declared.stage.Stage.TheVariants.{Repair}
use Rattle.vec_history.specs.Phases.{PhaseSince, IsLastBarrier, IsRemoved}
use Rattle.vec_graph.specs.declared.graph.Graph.{Graph}
use Rattle.vec_graph.specs.Graph.{IsLiveAt, IsDoomedAt, HasMember}
use Rattle.vec_graph.specs.Effect.{state_after}

-- no member of this layer of the node at this place is doomed
abbrev pub IsCleanAt : Graph → Tid → ℕ → Type 0
IsCleanAt g at layer = (to : Tid) → HasMember g at layer to → IsDoomedAt g to → ⊥

-- the entry point is none, or not doomed
abbrev pub IsEntryClean : Graph → Type 0
IsEntryClean g = (to : Tid) → g.entry ≡ Some to → IsDoomedAt g to → ⊥

-- it is so at some position from low to high
pub record SomeState (base : Graph) (acts : List Act) (low high : ℕ) (P : Graph → Type 0) : Type 0 where
  pub position : ℕ
  pub from_low : low ≤ position
  pub to_high : position ≤ high
  pub is : P (state_after base acts position)

-- between these positions each layer of each node that was live at the first was clean at some position, and so was the entry point
pub record WereCleaned (base : Graph) (acts : List Act) (low high : ℕ) : Type 0 where
  pub layers : (at : Tid) (layer : ℕ) → IsLiveAt (state_after base acts low) at layer
      → SomeState base acts low high (λ g. IsCleanAt g at layer)
  pub entry : SomeState base acts low high IsEntryClean

-- Repairing is done: the desk's phase Repair stands, and after its act the desk took Scan alone, and has released it. From the position of
-- its barrier of Update to right before the last such Gate all was cleaned at some time. Whoever holds Scan from then on began behind that.
pub record IsRepaired (base : Graph) (acts : List Act) (desk : ℕ) : Type 0 where
  pub begun : ℕ
  pub phase : PhaseSince acts desk Repair begun
  pub first : ℕ
  pub removed : IsRemoved (take begun acts) desk first
  pub barrier : ℕ
  pub scan : IsLastBarrier acts desk Scan begun barrier
  pub cleaned : WereCleaned base acts first barrier
