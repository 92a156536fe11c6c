-- What a call answers, where reading gives this.
use Rattle.std.specs.Prelude.{◌≡◌, ℕ, ◌≤◌, ◌-◌, List, length, drop, Result, Ok, Err}
use Rattle.vec_history.specs.declared.event.Event.{Event}
use Rattle.vec_event.specs.declared.fault.EventFault.{EventFault}
use Rattle.vec_event.specs.declared.fault.EventFault.TheVariants as faults
use Rattle.byte_fields.specs.Reading.{Got, Bad, Short}
use Rattle.vec_event.specs.Reading.{event}

-- What the bytes begin with, in the words of a caller: an event and the number of its bytes; that they end before the
-- event does; or where the first field stands whose value is not allowed. Of want of memory nothing is said.
abbrev pub IsReading : List ℕ → Result (Event × ℕ) EventFault → Type 0
IsReading bytes (Ok x) = (x.1 ≤ length bytes) × (event bytes ≡ Got x.0 (drop x.1 bytes))
IsReading bytes (Err faults.Memory) = Unit {0}
IsReading bytes (Err faults.Short) = (left : ℕ) × (event bytes ≡ Short left)
IsReading bytes (Err (faults.Bad at)) = (at ≤ length bytes) × (event bytes ≡ Bad (length bytes - at))
