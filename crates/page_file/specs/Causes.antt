-- Why a call on the page area gave up.
use Rattle.std.specs.Prelude.{◌≡◌, ℕ, ⊤}
use Rattle.page_file.specs.declared.fault.PageFileFault.{PageFileFault}
use Rattle.page_file.specs.declared.fault.PageFileFault.TheVariants.{Memory, Disk, NotPage}
use Rattle.vec_outside.specs.Causes.{Rose}

-- a fault of a disk whose count of faults was before and is now
abbrev pub IsDiskFault : ℕ → ℕ → PageFileFault → Type 0
IsDiskFault before now Memory = ⊤
IsDiskFault before now (Disk count) = (count ≡ now) × Rose before now
IsDiskFault before now (NotPage at) = ⊥

-- the same, or that no page was found
abbrev pub IsReadFault : ℕ → ℕ → PageFileFault → Type 0
IsReadFault before now Memory = ⊤
IsReadFault before now (Disk count) = (count ≡ now) × Rose before now
IsReadFault before now (NotPage at) = ⊤
