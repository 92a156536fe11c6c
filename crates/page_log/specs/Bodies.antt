-- The bytes behind a batch's seal, and a batch that was put back into a log.
use Rattle.std.specs.Prelude.{◌≡◌, ℕ, ◌+◌, length, Option, Some, None}
use Rattle.std.specs.Option.{ForSome}
use Rattle.page_log.specs.declared.pending.Pending.{Pending}
use Rattle.vec_outside.specs.declared.disks.Area.{Area}

-- it stands where the log ends
abbrev pub IsBack : Area → ℕ → Option Pending → Type 0
IsBack area end back = ForSome back (λ pending. (pending.area ≡ area) × (pending.at + length pending.bytes.items ≡ end))

-- how many bytes and events were put back
abbrev pub bytes_back : Option Pending → ℕ
bytes_back None = 0
bytes_back (Some pending) = length pending.bytes.items

abbrev pub events_back : Option Pending → ℕ
events_back None = 0
events_back (Some pending) = pending.events
