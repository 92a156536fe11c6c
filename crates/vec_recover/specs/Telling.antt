-- What one reading of an index tells of what its bytes recover to, and why it gave up.
use Rattle.std.specs.Prelude.{◌≡◌, ℕ, ◌+◌, ◌%◌, ◌^◌, ◌<◌, ◌≤◌, ◌↔◌, Contains, Option, Some, None, Result, Ok, Err, ⊤, length}
use Rattle.vec_outside.specs.Causes.{Rose}
use Rattle.vec_outside.specs.Disk.{Image}
use Rattle.page_log.specs.BothLogs.{other_log}
use Rattle.page_log.specs.Opening.{Epoch, ReadsAs}
use Rattle.page_log.specs.declared.limits.TheConstants.{HEAD}
use Rattle.page_log.specs.declared.opening_fault.OpenFault.{OpenFault}
use Rattle.page_log.specs.declared.opening_fault.OpenFault.TheVariants as faults
use Rattle.vec_recover.specs.declared.reading.ReadIndex.{ReadIndex}
use Rattle.vec_recover.specs.Recovering.{IsRecovered, IsUnwritten, RecoversTo, Recovery}

-- The pages as they are recovered, and where the log of the epoch goes on.
pub record Tells (r : ReadIndex) (recovery : Recovery) : Type 0 where
  pub form : r.form ≡ recovery.epoch.head.form
  pub epoch : r.loaded.epoch ≡ recovery.epoch.head.epoch
  pub area : r.loaded.area ≡ recovery.epoch.area
  pub before : r.loaded.before ≡ (recovery.epoch.head.before + length recovery.epoch.events) % 2 ^ 64
  pub end : r.loaded.end ≡ recovery.epoch.end
  pub used : r.loaded.used ≡ recovery.epoch.used
  pub pages : r.loaded.pages.items ≡ recovery.pages
  pub unwritten : (block : ℕ) → Contains r.loaded.unwritten.items block ↔ ((block < length recovery.pages) × IsUnwritten recovery block)

-- what the areas recover to; of want of memory and of faults nothing is said
abbrev pub IsOpening : Image → Result (Option ReadIndex) OpenFault → Type 0
IsOpening image (Ok None) = ReadsAs image (Ok None)
IsOpening image (Ok (Some r)) = (recovery : Recovery) × Tells r recovery × IsRecovered image recovery
IsOpening image (Err fault) = RecoversTo image (Err fault)

-- a fault of a disk whose count of faults was before and is now, or of what the bytes are
abbrev pub IsOpenFault : ℕ → ℕ → OpenFault → Type 0
IsOpenFault before now faults.Memory = ⊤
IsOpenFault before now (faults.Disk count) = (count ≡ now) × Rose before now
IsOpenFault before now (faults.NotIndex area at) = ⊤
IsOpenFault before now (faults.BadEvent area at) = ⊤

-- Behind the epoch's batches stands one more byte, a closed seal; and the other area has a whole header, which does not count.
pub record HasSealBehind (image : Image) (epoch : Epoch) : Type 0 where
  pub behind : epoch.end < length (image epoch.area)
  pub other : HEAD ≤ length (image (other_log epoch.area))
