-- A new index on disks: its pages as the first epoch, each one with an image.
use Rattle.std.specs.Prelude.{◌≡◌, ◌⊎◌, ◌<◌, ◌↔◌, ℕ, zero, suc, List, [], ◌∷◌, All, Contains, length, None, Ok}
use Rattle.std.specs.List.Sorted.{IsStrictlyIncreasing}
use Rattle.vec_outside.specs.Disk.{Disk, Image}
use Rattle.vec_outside.specs.declared.disks.Area.TheVariants.{Log0, Log1}
use Rattle.page_bytes.specs.Content.{Content}
use Rattle.page_log.specs.Aside.{AreAll, IsAside}
use Rattle.page_log.specs.BothLogs.{Reads, begun}
use Rattle.page_log.specs.NewEpochs.{NewEpoch, base_of, epoch_from}
use Rattle.page_log.specs.Opening.{ReadsAs, parity_of}
use Rattle.page_log.specs.declared.log_fault.LogFault.{LogFault}
use Rattle.page_log.specs.declared.log_fault.LogFault.TheVariants as log
use Rattle.page_log.specs.declared.opening_fault.OpenFault.{OpenFault}
use Rattle.page_log.specs.declared.opening_fault.OpenFault.TheVariants as faults
use Rattle.page_log.specs.declared.limits.TheConstants.{OPEN}
use Rattle.loaded_index.specs.declared.loaded.Loaded.{Loaded}

-- so many blocks from this one on, each with the place of its page
abbrev pub each_block : ℕ → ℕ → List (ℕ × ℕ)
each_block zero block = []
each_block (suc k) block = (block, block) ∷ each_block k (suc block)

-- the pages as the first epoch of an index: before it were no events, and each block has an image
abbrev pub first_epoch : List Content → NewEpoch
first_epoch pages = epoch_from 1 0 (length pages) pages (each_block (length pages) 0)

-- in no image of the disks a log area is open
pub record AreShut (disk : Disk) : Type 0 where
  pub first : AreAll (IsAside (parity_of Log0) 0) Log0 disk
  pub other : AreAll (IsAside (parity_of Log1) 0) Log1 disk

-- the image reads as no index, or as the new one, which has no event
abbrev pub IsNoneOrNew : List Content → Image → Type 0
IsNoneOrNew pages image = ReadsAs image (Ok None) ⊎ Reads (begun (first_epoch pages)) image

-- what a board goes on from: these pages in the first epoch, none of which the page area has
pub record IsNew (pages : List Content) (l : Loaded) : Type 0 where
  pub same : l.pages.items ≡ pages
  pub epoch : l.epoch ≡ 1
  pub area : l.area ≡ Log0
  pub before : l.before ≡ 0
  pub end : l.end ≡ length (base_of (first_epoch pages) OPEN)
  pub used : l.used ≡ 0
  pub unwritten : (block : ℕ) → Contains l.unwritten.items block ↔ (block < length pages)

-- a fault of the log, where no event is written
abbrev pub IsSameLogFault : LogFault → OpenFault → Type 0
IsSameLogFault log.Memory fault = fault ≡ faults.Memory
IsSameLogFault (log.Full used size) fault = fault ≡ faults.Memory
IsSameLogFault (log.Disk count) fault = fault ≡ faults.Disk count

-- just the blocks below this one, rising
pub record AreAllBlocks (blocks : ℕ) (list : List ℕ) : Type 0 where
  pub rising : IsStrictlyIncreasing list
  pub there : All (λ block. block < blocks) list
  pub each : (block : ℕ) → Contains list block ↔ (block < blocks)
