-- Why an opening gave up.
use Rattle.std.specs.Prelude.{◌≡◌, ℕ, ⊤}
use Rattle.page_log.specs.declared.opening_fault.OpenFault.{OpenFault}
use Rattle.page_log.specs.declared.opening_fault.OpenFault.TheVariants.{Memory, Disk, NotIndex, BadEvent}
use Rattle.vec_outside.specs.Causes.{Rose}

-- a fault of a disk whose count of faults was before and is now
abbrev pub IsDiskFault : ℕ → ℕ → OpenFault → Type 0
IsDiskFault before now Memory = ⊤
IsDiskFault before now (Disk count) = (count ≡ now) × Rose before now
IsDiskFault before now (NotIndex area at) = ⊥
IsDiskFault before now (BadEvent area at) = ⊥

-- the same, or that the bytes are no index; never a bad event
abbrev pub IsReadFault : ℕ → ℕ → OpenFault → Type 0
IsReadFault before now Memory = ⊤
IsReadFault before now (Disk count) = (count ≡ now) × Rose before now
IsReadFault before now (NotIndex area at) = ⊤
IsReadFault before now (BadEvent area at) = ⊥
