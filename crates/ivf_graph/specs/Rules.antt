-- Which event a desk may make after a list of acts, which led to an index: one word for each kind of event.
use Rattle.std.specs.Prelude.{◌≡◌, ℕ, ◌<◌, ◌≤◌, ◌≢◌, Bool, List, [], All, length, slice_get, Some}
use Rattle.std.specs.List.Sorted.{IsStrictlyIncreasing}
use Rattle.index_sizes.specs.declared.limits.TheConstants.{MOST_BLOCKS}
use Rattle.vec_history.specs.declared.event.Event.{Event}
use Rattle.vec_history.specs.declared.event.Event.TheVariants as event
use Rattle.vec_history.specs.declared.event.Act.{Act}
use Rattle.vec_history.specs.declared.gate.Gate.TheVariants.{Vacuum}
use Rattle.vec_history.specs.declared.gate.Hold.TheVariants.{Alone}
use Rattle.vec_history.specs.Gates.{HoldsAs, IsGateAllowed}
use Rattle.vec_history.specs.Phases.{IsUngateAllowed}
use Rattle.vec_history.specs.Settling.{IsSettledAllowed, IsFaultAllowed}
use Rattle.ivf_graph.specs.declared.list.IvfList.{IvfList}
use Rattle.ivf_graph.specs.declared.graph.IvfGraph.{IvfGraph}
use Rattle.ivf_graph.specs.Graph.{Row, IsOfChain, last_block, rows_on, HasRoom, IsAsLong}

-- ---- rows

-- A further row on a block of a chain that has room for it, with a value of the centres' length.
pub record IsAddAllowed (g : IvfGraph) (block : ℕ) (bits : List Bool) : Type 0 where
  pub rows : List Row
  pub stands : rows_on g block ≡ Some rows
  pub room : HasRoom rows (length bits)
  pub as_long : IsAsLong g bits

-- A new block, the next of all, behind the one that ends the list's chain, with a row whose value has the centres' length.
pub record IsGrowAllowed (g : IvfGraph) (list last block : ℕ) (bits : List Bool) : Type 0 where
  pub grows : IvfList
  pub is_there : slice_get g.lists list ≡ Some grows
  pub ends : last_block grows.chain ≡ Some last
  pub is_next : block ≡ g.blocks
  pub not_high : block < MOST_BLOCKS
  pub as_long : IsAsLong g bits

-- Rows go at offsets, from 1, that are there and rise, one at least, while the desk holds Vacuum alone.
pub record IsCutAllowed (g : IvfGraph) (acts : List Act) (desk : ℕ) (block : ℕ) (gone : List ℕ) : Type 0 where
  pub alone : HoldsAs acts desk Vacuum Alone
  pub rows : List Row
  pub stands : rows_on g block ≡ Some rows
  pub some : gone ≢ []
  pub rising : IsStrictlyIncreasing gone
  pub are_there : All (λ offset. (1 ≤ offset) × (offset ≤ length rows)) gone

-- ---- aims

-- A list comes to aim at a block of its chain.
pub record IsAimAllowed (g : IvfGraph) (list block : ℕ) : Type 0 where
  pub aims : IvfList
  pub is_there : slice_get g.lists list ≡ Some aims
  pub of_chain : IsOfChain aims.chain block

-- ---- all events

-- The desk may make the event after these acts, which led to this index. No event of a graph of nodes is allowed, and no phase of a vacuum.
abbrev pub IsEventAllowed : IvfGraph → List Act → ℕ → Event → Type 0
IsEventAllowed g acts desk (event.Put at list_at version level id bits lists) = ⊥
IsEventAllowed g acts desk (event.Join at version id) = ⊥
IsEventAllowed g acts desk (event.Link at list_at version slot to) = ⊥
IsEventAllowed g acts desk (event.Relist at list_at version lists) = ⊥
IsEventAllowed g acts desk (event.Drop at version gone) = ⊥
IsEventAllowed g acts desk (event.Mark at list_at version) = ⊥
IsEventAllowed g acts desk (event.Entry to level) = ⊥
IsEventAllowed g acts desk (event.Hint block) = ⊥
IsEventAllowed g acts desk (event.IvfAdd block id bits) = IsAddAllowed g block bits
IsEventAllowed g acts desk (event.IvfGrow list last block id bits) = IsGrowAllowed g list last block bits
IsEventAllowed g acts desk (event.IvfDrop block gone) = IsCutAllowed g acts desk block gone
IsEventAllowed g acts desk (event.IvfHint list block) = IsAimAllowed g list block
IsEventAllowed g acts desk (event.Gate gate hold) = IsGateAllowed acts desk gate hold
IsEventAllowed g acts desk (event.Ungate gate) = IsUngateAllowed acts desk gate
IsEventAllowed g acts desk (event.Phase stage) = ⊥
IsEventAllowed g acts desk event.VacuumEnd = ⊥
IsEventAllowed g acts desk (event.Cancel stage) = ⊥
IsEventAllowed g acts desk (event.Settled upto) = IsSettledAllowed acts upto
IsEventAllowed g acts desk (event.DiskFaulted count) = IsFaultAllowed acts count
