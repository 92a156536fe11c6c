-- A scan between two batches: what its state holds, and what its calls ask and do.
use Rattle.std.specs.Prelude.{◌≡◌, ◌≢◌, ◌≤◌, ℕ, Bool, true, false, List, [], length, Option, None}
use Rattle.bit_dist.specs.declared.dist.Dist.{Dist}
use Rattle.vec_history.specs.declared.event.Act.{Act}
use Rattle.graph_search.specs.Scan.{Held, Mode}
use Rattle.vec_steps.specs.declared.fault.OpFault.{OpFault}
use Rattle.vec_steps.specs.declared.fault.OpFault.TheVariants as op
use Rattle.vec_steps.specs.Index.{Index}
use Rattle.vec_steps.specs.Desks.{Desk}
use Rattle.layer_search.specs.Telling.{OverSpots, spots_held}
use Rattle.layer_search.specs.Resuming.{CanGoOn, holding, layer_of}
use Rattle.hnsw_scan.specs.declared.state.Going.{Going}
use Rattle.hnsw_scan.specs.declared.state.Progress.{Progress}
use Rattle.hnsw_scan.specs.declared.state.Progress.TheVariants as progress
use Rattle.hnsw_scan.specs.declared.state.ScanState.{ScanState}
use Rattle.hnsw_scan.specs.Answering.{mode_of}
use Rattle.hnsw_scan.specs.Gated.{GatedEnd, IsFreed}

-- what it looks for; how many a batch takes; how it goes on; and up to how many known elements
pub record Wanted : Type 0 where
  pub query : List Bool
  pub ef : ℕ
  pub mode : Mode
  pub max : ℕ

abbrev pub wanted_of : ScanState → Wanted
wanted_of s = record { query = s.query; ef = s.ef; mode = mode_of s.mode; max = s.max }

-- ---- how far it is

abbrev pub is_unused_at : Progress → Bool
is_unused_at progress.Unused = true
is_unused_at (progress.Under going) = false
is_unused_at progress.Spent = false

abbrev pub is_spent_at : Progress → Bool
is_spent_at progress.Unused = false
is_spent_at (progress.Under going) = false
is_spent_at progress.Spent = true

-- no batch was asked of it yet, and each is to take an element at least
pub record IsUnused (s : ScanState) : Type 0 where
  pub unused : is_unused_at s.progress ≡ true
  pub some : 1 ≤ s.ef

-- a call on it ended by a fault
abbrev pub is_spent : ScanState → Bool
is_spent s = is_spent_at s.progress

-- It has had its first batch and can go on: its search is of the lowest layer, and of values of the
-- query's length.
pub record CanGive (query : List Bool) (g : Going) : Type 0 where
  pub ready : CanGoOn (length query) g.search
  pub lowest : layer_of g.search ≡ 0

abbrev pub IsUnderAt : List Bool → Progress → Type 0
IsUnderAt query progress.Unused = ⊥
IsUnderAt query (progress.Under going) = CanGive query going
IsUnderAt query progress.Spent = ⊥

-- it has had its first batch, and no call on it ended by a fault
pub record IsUnder (s : ScanState) : Type 0 where
  pub can_give : IsUnderAt s.query s.progress
  pub some : 1 ≤ s.ef

-- ---- what it holds

abbrev pub nothing_held : Held
nothing_held = record { is_named = λ at. false; unexpanded = []; found = []; count = 0 }

abbrev pub held_at : Progress → Held
held_at progress.Unused = nothing_held
held_at (progress.Under going) = holding going.search
held_at progress.Spent = nothing_held

-- what its search holds; nothing before the first batch
abbrev pub held_in : ScanState → Held
held_in s = held_at s.progress

abbrev pub last_at : Progress → Option Dist
last_at progress.Unused = None
last_at (progress.Under going) = going.last
last_at progress.Spent = None

-- the distance of the last row answered
abbrev pub last_in : ScanState → Option Dist
last_in s = last_at s.progress

-- The bases on which a desk stands, and over which the elements that the state holds stand as they
-- were told: a premise of what a call says, for each base by itself.
abbrev pub OverScan : (Index → Type 0) → List Act → ScanState → Index → Type 0
OverScan stands acts s = OverSpots stands acts 0 (spots_held (held_in s))

-- ---- faults

-- How a fault ends a batch for a query of so many places. `Dimensions` comes just where the index's
-- values have another number of places, and then nothing was done; any other fault ends the call
-- under its gate, or before that was asked for.
abbrev pub BatchFails : (Index → Type 0) → Desk → List Act → List Act → ℕ → OpFault → Type 0
BatchFails over d old new long (op.Dimensions got want) = (got ≡ long) × (want ≡ d.params.bits) × (got ≢ want) × (new ≡ old)
BatchFails over d old new long fault = (long ≡ d.params.bits) × GatedEnd over d old new fault × IsFreed over d new fault
