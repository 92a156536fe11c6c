-- A log area that does not count: its seal is closed, or it holds a smaller epoch. What a crash leaves of it while it is written.
use Rattle.std.specs.Prelude.{◌≢◌, ℕ, ◌<◌, ◌≤◌, List, length, slice_index, Option, Some, None, Result, Ok, Err, ⊤}
use Rattle.page_log.specs.Going.{KeepsOthers}
use Rattle.page_log.specs.NewEpochs.{NewEpoch, IsUnder}
use Rattle.page_log.specs.Opening.{front_at}
use Rattle.page_log.specs.declared.front.Front.{Front}
use Rattle.page_log.specs.declared.limits.TheConstants.{HEAD, OPEN, SEAL}
use Rattle.vec_outside.specs.Disk.{Disk, LeavesOnly}
use Rattle.vec_outside.specs.declared.disks.Area.{Area}

-- a whole header whose seal is closed, whatever else stands in it
pub record IsShut (area : List ℕ) : Type 0 where
  pub whole : HEAD ≤ length area
  pub shut : slice_index area SEAL ≢ OPEN

-- nothing counts there, or a smaller epoch
abbrev pub IsBelow : ℕ → Result (Option Front) ℕ → Type 0
IsBelow epoch (Ok None) = ⊤
IsBelow epoch (Ok (Some front)) = front.head.epoch < epoch
IsBelow epoch (Err at) = ⊥

-- Beside an epoch of this number the area does not count: its seal is closed, or it names a smaller one. Beside the number 0 only a
-- closed one does not.
pub record IsAside (parity epoch : ℕ) (area : List ℕ) : Type 0 where
  pub whole : HEAD ≤ length area
  pub below : IsBelow epoch (front_at parity area)

-- it holds the new epoch, whatever byte its seal is
abbrev pub IsUnderSome : NewEpoch → List ℕ → Type 0
IsUnderSome new area = (seal : ℕ) × IsUnder new seal area

-- it holds it, and the seal is closed
abbrev pub IsUnderShut : NewEpoch → List ℕ → Type 0
IsUnderShut new area = (seal : ℕ) × (seal ≢ OPEN) × IsUnder new seal area

-- ---- on disks

-- every image of the area is so
abbrev pub AreAll : (List ℕ → Type 0) → Area → Disk → Type 0
AreAll Is area disk = (bytes : List ℕ) → disk.leaves area bytes → Is bytes

-- Nothing of the other areas changes; and where every image of this one is so, every one of every moment between is.
pub record Keeps (Is : List ℕ → Type 0) (area : Area) (before after : Disk) : Type 0 where
  pub others : KeepsOthers area before after
  pub stays : AreAll Is area before → AreAll Is area after
  pub moments : AreAll Is area before → LeavesOnly before after (λ image. Is (image area))
