-- What a crash may leave of areas in memory. Each write and sync that was made is kept, the newest first, a write with
-- the bytes that it took the place of.
use Rattle.std.specs.Prelude.{◌≡◌, ◌≢◌, ◌⊎◌, ◌≤◌, ◌+◌, ℕ, Bool, false, List, [], ◌∷◌, ◌++◌, length, take, drop, if◌then◌else◌, MatchBool, refl}
use Rattle.std.proofs.Common.{inl, inr, arith}
use Rattle.vec_outside.specs.Areas.{bytes_of, is_same}
use Rattle.vec_outside.specs.Disk.{Disk, Image, IsTorn}
use Rattle.vec_outside.specs.declared.disks.Area.{Area}
use Rattle.vec_outside.specs.declared.timeline.Call.{Call}
use Rattle.vec_outside.specs.declared.timeline.Call.TheVariants.{Wrote, Synced}
use Rattle.vec_outside.specs.declared.timeline.Timeline.{Timeline}

-- the bytes of an area before a call
abbrev pub before_call : Call → Area → List ℕ → List ℕ
before_call (Wrote write) area now =
    if is_same write.area area then take write.at now ++ write.was.items ++ drop (write.at + write.len) now else now
before_call (Synced synced) area now = now

-- the call synced the area
abbrev pub is_sync_of : Call → Area → Bool
is_sync_of (Wrote write) area = false
is_sync_of (Synced synced) area = is_same synced area

-- what a call may make of what a crash before it might have left: a write of the area tears its range, a sync of it
-- leaves nothing old, and any other call leaves it as it is
abbrev pub MayMake : Call → Area → List ℕ → List ℕ → Type 0
MayMake (Wrote write) area old new = MatchBool (is_same write.area area) (IsTorn write.at write.len old new) (new ≡ old)
MayMake (Synced synced) area old new = MatchBool (is_same synced area) ⊥ (new ≡ old)

-- what a crash may leave of an area that reads as these bytes now, after these calls, the newest first
abbrev pub Leaves : Area → List ℕ → List Call → List ℕ → Type 0
Leaves area now [] bytes = bytes ≡ now
Leaves area now (call ∷ earlier) bytes = (bytes ≡ now)
    ⊎ ((left : List ℕ) × Leaves area (before_call call area now) earlier left × MayMake call area left bytes)

-- what a crash at some moment since t might have left
abbrev pub Since : Image → List Call → ℕ → Image → Type 0
Since now [] t image = (area : Area) → Leaves area (now area) [] (image area)
Since now (call ∷ earlier) t image = ((area : Area) → Leaves area (now area) (call ∷ earlier) (image area))
    ⊎ ((t ≤ length earlier) × Since (λ area. before_call call area (now area)) earlier t image)

-- what its last sync left of an area, or what it began with
abbrev pub left_by_sync : Area → List ℕ → List Call → List ℕ
left_by_sync area now [] = now
left_by_sync area now (call ∷ earlier) = if is_sync_of call area then now else left_by_sync area (before_call call area now) earlier

abbrev pub disk_of : Image → List Call → Disk
disk_of now calls = record {
  seen = now;
  leaves = λ area bytes. Leaves area (now area) calls bytes;
  moment = length calls;
  left_since = λ t image. Since now calls t image;
}

abbrev pub timeline_disk : Timeline → Disk
timeline_disk line = disk_of (bytes_of line.areas) line.done.items

-- what the last syncs left of each area
abbrev pub synced_image : Timeline → Image
synced_image line area = left_by_sync area (bytes_of line.areas area) line.done.items

-- whatever a crash might have left before, it may leave now, torn in the range; other areas as before
pub record IsPending (area : Area) (at n : ℕ) (old new : Disk) : Type 0 where
  pub leaves : (was bytes : List ℕ) → old.leaves area was → IsTorn at n was bytes → new.leaves area bytes
  pub other_leaves : (other : Area) (bytes : List ℕ) → other ≢ area → old.leaves other bytes → new.leaves other bytes

-- what is read is one of the things that a crash may leave
pub now_left : (area : Area) (now : List ℕ) (calls : List Call) → Leaves area now calls now
now_left area now [] = refl
now_left area now (call ∷ earlier) = inl refl

pub now_counts : (now : Image) (calls : List Call) (t : ℕ) (image : Image)
    → ((area : Area) → Leaves area (now area) calls (image area)) → Since now calls t image
now_counts now [] t image is = is
now_counts now (call ∷ earlier) t image is = inl is

pub now_only : (now : Image) (calls : List Call) (image : Image) → Since now calls (length calls) image → (area : Area)
    → Leaves area (now area) calls (image area)
now_only now [] image since = since
now_only now (call ∷ earlier) image (inl is) = is
now_only now (call ∷ earlier) image (inr before) = absurd (omega arith)
