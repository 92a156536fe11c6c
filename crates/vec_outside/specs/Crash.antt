-- How a crash of areas in memory chooses what it leaves.
use Rattle.std.specs.Prelude.{◌≡◌, ⊤, false, List, [], ◌∷◌, ℕ}
use Rattle.vec_outside.specs.MemDisk.{before_call, is_sync_of}
use Rattle.vec_outside.specs.declared.disks.Area.{Area}
use Rattle.vec_outside.specs.declared.crash.Choice.{Choice}
use Rattle.vec_outside.specs.declared.crash.Choice.TheVariants.{Kept, Lost, Mixed}
use Rattle.vec_outside.specs.declared.timeline.Call.{Call}

-- what is left of an area that reads as now, and that its last sync left as synced
abbrev pub IsChosen : Choice → List ℕ → List ℕ → List ℕ → Type 0
IsChosen Kept now synced bytes = bytes ≡ now
IsChosen Lost now synced bytes = bytes ≡ synced
IsChosen (Mixed seed) now synced bytes = ⊤

-- these calls, the newest first, taken back from what is read now: none of them synced the area
abbrev pub UndoneBy : Area → List ℕ → List Call → List ℕ → Type 0
UndoneBy area now [] bytes = bytes ≡ now
UndoneBy area now (call ∷ earlier) bytes = (is_sync_of call area ≡ false) × UndoneBy area (before_call call area now) earlier bytes
