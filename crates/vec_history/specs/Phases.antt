-- How far a vacuum is: the phase that stands, and the barriers between its passes.
use Rattle.std.specs.Prelude.{◌≡◌, ℕ, ◌+◌, ◌<◌, ⊤, List}
use Rattle.vec_history.specs.declared.event.Event.{Event}
use Rattle.vec_history.specs.declared.event.Event.TheVariants as event
use Rattle.vec_history.specs.declared.event.Act.{Act}
use Rattle.vec_history.specs.declared.gate.Gate.{Gate}
use Rattle.vec_history.specs.declared.gate.Gate.TheVariants.{Update, Vacuum}
use Rattle.vec_history.specs.declared.gate.Hold.TheVariants.{Alone}
use Rattle.vec_history.specs.declared.stage.Stage.{Stage}
use Rattle.vec_history.specs.declared.stage.Stage.TheVariants.{Remove}
use Rattle.vec_history.specs.Acts.{IsActAt, NoneAfter}
use Rattle.vec_history.specs.Gates.{Holds, HoldsAs}

-- ---- the phase

-- the event begins a phase, or ends the vacuum
abbrev pub IsOfVacuum : Event → Type 0
IsOfVacuum (event.Phase stage) = ⊤
IsOfVacuum event.VacuumEnd = ⊤
IsOfVacuum (event.Cancel stage) = ⊤
IsOfVacuum _ = ⊥

-- The phase of this stage stands since the desk's act of number k began it: no phase was begun since, and no vacuum ended.
pub record PhaseSince (acts : List Act) (desk : ℕ) (stage : Stage) (k : ℕ) : Type 0 where
  pub begun : IsActAt acts k desk (event.Phase stage)
  pub stands : NoneAfter acts k (λ a. IsOfVacuum a.event)

-- a phase of this stage stands, and this desk made it
abbrev pub IsInPhase : List Act → ℕ → Stage → Type 0
IsInPhase acts desk stage = (k : ℕ) × PhaseSince acts desk stage k

-- a phase stands, whichever it is
abbrev pub IsAPhaseStanding : List Act → Type 0
IsAPhaseStanding acts = (desk : ℕ) × (stage : Stage) × IsInPhase acts desk stage

-- ---- barriers

-- the desk took the gate alone by the act of number k, so that no other desk held it, and has given it back
pub record IsBarrier (acts : List Act) (desk : ℕ) (gate : Gate) (k : ℕ) : Type 0 where
  pub taken : IsActAt acts k desk (event.Gate gate Alone)
  pub released : ℕ
  pub later : k < released
  pub given : IsActAt acts released desk (event.Ungate gate)

-- the last barrier of the desk at this gate, the act of number k, comes after this act
pub record IsLastBarrier (acts : List Act) (desk : ℕ) (gate : Gate) (behind k : ℕ) : Type 0 where
  pub is : IsBarrier acts desk gate k
  pub after : behind < k
  pub last : (j : ℕ) → k < j → IsBarrier acts desk gate j → ⊥

abbrev pub IsDrop : Event → Type 0
IsDrop (event.Drop at version gone) = ⊤
IsDrop _ = ⊥

-- Removing is done: the desk's phase Remove stands, and after its act and after the last Drop the desk took Update
-- alone, and has released it.
-- `position` is right after the last such Gate. Whoever holds Update from then on took it behind the last Drop.
pub record IsRemoved (acts : List Act) (desk position : ℕ) : Type 0 where
  pub begun : ℕ
  pub phase : PhaseSince acts desk Remove begun
  pub barrier : ℕ
  pub update : IsLastBarrier acts desk Update begun barrier
  pub drops_before : NoneAfter acts barrier (λ a. IsDrop a.event)
  pub here : position ≡ barrier + 1

-- The act of this number took Update alone, whether or not it was given back since, and no Drop came after it.
pub record IsBehindDrops (acts : List Act) (k : ℕ) : Type 0 where
  pub desk : ℕ
  pub taken : IsActAt acts k desk (event.Gate Update Alone)
  pub no_drop : NoneAfter acts k (λ a. IsDrop a.event)

-- ---- rules

-- The desk holds the gate; the gate of vacuums stays held while a phase stands.
pub record IsUngateAllowed (acts : List Act) (desk : ℕ) (gate : Gate) : Type 0 where
  pub held : Holds acts desk gate
  pub no_phase : gate ≡ Vacuum → IsAPhaseStanding acts → ⊥

pub record IsPhaseRemoveAllowed (acts : List Act) (desk : ℕ) : Type 0 where
  pub alone : HoldsAs acts desk Vacuum Alone
  pub no_phase : IsAPhaseStanding acts → ⊥

abbrev pub IsPhaseRepairAllowed : List Act → ℕ → Type 0
IsPhaseRepairAllowed acts desk = (position : ℕ) × IsRemoved acts desk position
