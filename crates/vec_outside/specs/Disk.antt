-- Three areas of bytes with one clock: what a read gives, and what a crash may leave.
use Rattle.std.specs.Prelude.{◌≡◌, ◌≢◌, ◌⊎◌, ℕ, ◌+◌, ◌≤◌, max, List, [], ◌++◌, length, take, drop}
use Rattle.vec_outside.specs.declared.disks.Area.{Area}
use Rattle.vec_outside.specs.declared.disks.Area.TheVariants.{Pages, Log0, Log1}

-- the bytes of each area
abbrev pub Image : Type 0
Image = Area → List ℕ

-- the image with these bytes in the pages and the two logs
abbrev pub image_of : List ℕ → List ℕ → List ℕ → Image
image_of pages log0 log1 Pages = pages
image_of pages log0 log1 Log0 = log0
image_of pages log0 log1 Log1 = log1

pub record Disk : Type 1 where
  -- what a read gives
  pub seen : Area → List ℕ
  -- what a crash now may leave in an area
  pub leaves : Area → List ℕ → Type 0
  -- the clock, which does not fall
  pub moment : ℕ
  -- what a crash at some moment from that one on might have left
  pub left_since : ℕ → Image → Type 0

-- an image that a crash now may leave
abbrev pub IsImage : Disk → Image → Type 0
IsImage disk image = (area : Area) → disk.leaves area (image area)

-- the bytes with others written over them at a place, and past the end
abbrev pub spliced : List ℕ → ℕ → List ℕ → List ℕ
spliced old at bytes = take at old ++ bytes ++ drop (at + length bytes) old

-- any bytes in a range of n bytes and past the old end, up to its end; the same elsewhere
pub record IsTorn (at n : ℕ) (old new : List ℕ) : Type 0 where
  pub before : take at new ≡ take at old
  pub after : drop (at + n) new ≡ drop (at + n) old
  pub no_shorter : length old ≤ length new
  pub no_longer : length new ≤ max (length old) (at + n)

-- Time goes on: a crash since t left what it might have left before, or what it may leave now.
pub record Elapses (old new : Disk) : Type 0 where
  pub later : old.moment ≤ new.moment
  pub nothing_else : (t : ℕ) (image : Image) → t ≤ old.moment → new.left_since t image → old.left_since t image ⊎ IsImage new image
  pub keeps : (t : ℕ) (image : Image) → t ≤ old.moment → old.left_since t image → new.left_since t image

-- nothing is written: the same is read, and a crash leaves nothing more
pub record IsKept (old new : Disk) : Type 0 where
  pub seen : (area : Area) → new.seen area ≡ old.seen area
  pub leaves : (area : Area) (bytes : List ℕ) → new.leaves area bytes → old.leaves area bytes

-- a range of an area counts as written
pub record IsWritten (area : Area) (at n : ℕ) (old new : Disk) : Type 0 where
  pub seen : IsTorn at n (old.seen area) (new.seen area)
  pub leaves : (bytes : List ℕ) → new.leaves area bytes → (was : List ℕ) × old.leaves area was × IsTorn at n was bytes
  pub other_seen : (other : Area) → other ≢ area → new.seen other ≡ old.seen other
  pub other_leaves : (other : Area) (bytes : List ℕ) → other ≢ area → new.leaves other bytes → old.leaves other bytes

-- a crash leaves in the area what a read gives
abbrev pub IsDurable : Area → Disk → Type 0
IsDurable area disk = (bytes : List ℕ) → disk.leaves area bytes → bytes ≡ disk.seen area

-- Each image of each moment since the old state has P.
pub record LeavesOnly (old new : Disk) (P : Image → Type 0) : Type 0 where
  pub later : old.moment ≤ new.moment
  pub each : (image : Image) → new.left_since old.moment image → P image
  -- for a run that began earlier
  pub before : (t : ℕ) (image : Image) → t ≤ old.moment → new.left_since t image → old.left_since t image ⊎ P image

-- an image of the disk whose area may be torn in a range
pub record IsTornImage (area : Area) (at n : ℕ) (disk : Disk) (image : Image) : Type 0 where
  pub torn : (was : List ℕ) × disk.leaves area was × IsTorn at n was (image area)
  pub others : (other : Area) → other ≢ area → disk.leaves other (image other)

-- a disk that tells nothing: a read may give anything, and nothing is said of a crash
abbrev pub untold_disk : Disk
untold_disk = record { seen = λ area. []; leaves = λ area bytes. ⊥; moment = 0; left_since = λ t image. ⊥ }
