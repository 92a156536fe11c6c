-- What is seen of disks over files: their count of faults, and of which areas a sync failed.
use Rattle.std.specs.Prelude.{ℕ, IsTrue}
use Rattle.vec_outside.specs.Marks.{is_marked}
use Rattle.vec_outside.specs.declared.disks.Area.{Area}
use Rattle.vec_outside.specs.declared.file_disks.FileDisks.{FileDisks}

-- how many calls have failed
abbrev pub disks_faults : FileDisks → ℕ
disks_faults disks = disks.faults

-- a sync of the area has failed
abbrev pub HasFailed : FileDisks → Area → Type 0
HasFailed disks area = IsTrue (is_marked disks.files.failed area)

-- an area whose sync has failed stays one
abbrev pub StaysFailed : FileDisks → FileDisks → Type 0
StaysFailed old new = (area : Area) → HasFailed old area → HasFailed new area
