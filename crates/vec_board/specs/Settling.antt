-- Settling at a board: the events on the disks, and the act that says so.
use Rattle.std.specs.Prelude.{◌≡◌, ℕ, ◌≤◌, ◌<◌, ⊤, List, [], ◌∷◌, ◌++◌}
use Rattle.vec_history.specs.declared.event.Event.{Event}
use Rattle.vec_history.specs.declared.event.Event.TheVariants as event
use Rattle.vec_history.specs.declared.event.Act.{Act}
use Rattle.vec_history.specs.Acts.{act_of, IsActAt}
use Rattle.history_tables.specs.Rooms.{spent}
use Rattle.history_tables.specs.Telling.{Tells}
use Rattle.vec_steps.specs.declared.fault.StepFault.{StepFault}
use Rattle.vec_steps.specs.declared.fault.StepFault.TheVariants as fault
use Rattle.vec_board.specs.declared.board_core.Core.{Core}
use Rattle.vec_board.specs.Standing.{acts_of}
use Rattle.vec_board.specs.Acting.{room_of}

-- Nothing was made, and what is known of the index stays. Of the log nothing is said.
pub record IsStill (old new : Core) : Type 0 where
  pub acts : acts_of new ≡ acts_of old
  pub tells : (acts : List Act) → Tells old.history.tables acts → Tells new.history.tables acts
  pub rooms : new.history.rooms.rooms.items ≡ old.history.rooms.rooms.items
  pub number : new.number ≡ old.number
  pub epoch : new.log.epoch ≡ old.log.epoch
  pub summary : new.summary ≡ old.summary
  pub params : new.params ≡ old.params
  pub room : room_of new ≡ room_of old

-- The desk noted this, which is the last act now and goes to no page; one of its room is spent. Of the log nothing is said.
pub record IsNoted (old new : Core) (desk : ℕ) (e : Event) : Type 0 where
  pub acts : acts_of new ≡ acts_of old ++ act_of desk e ∷ []
  pub tells : Tells old.history.tables (acts_of old) → Tells new.history.tables (acts_of new)
  pub rooms : new.history.rooms.rooms.items ≡ spent desk old.history.rooms.rooms.items
  pub number : new.number ≡ old.number
  pub epoch : new.log.epoch ≡ old.log.epoch
  pub summary : new.summary ≡ old.summary
  pub params : new.params ≡ old.params
  pub room : room_of new ≡ room_of old

-- Why not all was settled: no memory was found, and nothing was noted; or the disks' count of faults rose, which the desk noted.
abbrev pub IsUnsettled : Core → Core → ℕ → ℕ → ℕ → StepFault → Type 0
IsUnsettled old new desk before now fault.Memory = IsStill old new
IsUnsettled old new desk before now (fault.LogFull used size) = ⊥
IsUnsettled old new desk before now (fault.Disk count) = IsNoted old new desk (event.DiskFaulted count) × (count ≡ now) × before < now

-- no fault that these acts count is above this
abbrev pub AreFaultsBelow : List Act → ℕ → Type 0
AreFaultsBelow acts count = (k desk before : ℕ) → IsActAt acts k desk (event.DiskFaulted before) → before ≤ count

-- ---- helper words of the functions

-- the event counts what is settled, or a fault of the disks
abbrev pub IsOfSettling : Event → Type 0
IsOfSettling (event.Settled upto) = ⊤
IsOfSettling (event.DiskFaulted count) = ⊤
IsOfSettling _ = ⊥
