-- Why a call on the log gave up.
use Rattle.std.specs.Prelude.{◌≡◌, ℕ, ◌+◌, ◌<◌, ◌≤◌, length, ⊤}
use Rattle.vec_event.specs.Spelling.{spelling}
use Rattle.vec_history.specs.declared.event.Event.{Event}
use Rattle.page_log.specs.declared.log_fault.LogFault.{LogFault}
use Rattle.page_log.specs.declared.log_fault.LogFault.TheVariants.{Memory, Full, Disk}
use Rattle.index_sizes.specs.declared.limits.TheConstants.{LOG_ROOM}
use Rattle.vec_outside.specs.Causes.{Rose}

-- want of memory alone
abbrev pub IsMemory : LogFault → Type 0
IsMemory Memory = ⊤
IsMemory (Full used size) = ⊥
IsMemory (Disk count) = ⊥

-- a fault of a disk whose count of faults was before and is now
abbrev pub IsDiskFault : ℕ → ℕ → LogFault → Type 0
IsDiskFault before now Memory = ⊤
IsDiskFault before now (Full used size) = ⊥
IsDiskFault before now (Disk count) = (count ≡ now) × Rose before now

-- an event is refused just where it has no room beside what is used, and else for memory only with no spare
abbrev pub IsAppendFault : ℕ → ℕ → Event → LogFault → Type 0
IsAppendFault used spare event Memory = (spare ≡ 0) × (used + (length (spelling event) + 5) ≤ LOG_ROOM)
IsAppendFault used spare event (Full taken size) =
    (taken ≡ used) × (size ≡ length (spelling event)) × (LOG_ROOM < used + (length (spelling event) + 5))
IsAppendFault used spare event (Disk count) = ⊥
