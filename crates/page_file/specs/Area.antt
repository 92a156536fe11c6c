-- The page area: the page of a block stands at 8,192 times the block.
use Rattle.std.specs.Prelude.{◌≡◌, ◌≢◌, ◌⊎◌, ℕ, ◌+◌, ◌*◌, ◌/◌, ◌<◌, ◌≤◌, List, [], ◌∷◌, length, take, drop, slice_get, Option, Some, None, Result, Ok, Err, ⊤}
use Rattle.index_sizes.specs.declared.limits.TheConstants.{PAGE_SIZE}
use Rattle.page_bytes.specs.Content.{Content}
use Rattle.page_bytes.specs.Decoding.{Spells}
use Rattle.page_bytes.specs.Spelling.{spelling}
use Rattle.page_file.specs.declared.fault.PageFileFault.{PageFileFault}
use Rattle.page_file.specs.declared.fault.PageFileFault.TheVariants as faults
use Rattle.vec_outside.specs.Disk.{Disk, Image, spliced}
use Rattle.vec_outside.specs.declared.disks.Area.{Area}
use Rattle.vec_outside.specs.declared.disks.Area.TheVariants.{Pages}

-- ---- what is written. A pair is a block and the place of its page in a list.

-- one of the pairs is for this block
abbrev pub IsAmong : List (ℕ × ℕ) → ℕ → Type 0
IsAmong [] block = ⊥
IsAmong (pair ∷ pairs) block = (block ≡ pair.0) ⊎ IsAmong pairs block

-- one of the pairs is for a block above this one
abbrev pub IsBelow : List (ℕ × ℕ) → ℕ → Type 0
IsBelow [] block = ⊥
IsBelow (pair ∷ pairs) block = (block < pair.0) ⊎ IsBelow pairs block

-- each block is below all those after it
abbrev pub IsRising : List (ℕ × ℕ) → Type 0
IsRising [] = ⊤
IsRising (pair ∷ pairs) = ((block : ℕ) → IsAmong pairs block → pair.0 < block) × IsRising pairs

-- Of an area of so many bytes no block is left out: each one below the last pair's is among the pairs or in the area.
abbrev pub LeavesNoGap : List (ℕ × ℕ) → ℕ → Type 0
LeavesNoGap pairs len = (block : ℕ) → IsBelow pairs block → IsAmong pairs block ⊎ (PAGE_SIZE * (block + 1) ≤ len)

abbrev pub bytes_of : Option Content → List ℕ
bytes_of None = []
bytes_of (Some page) = spelling page

-- the area with the pages of these pairs written over its bytes
abbrev pub with_pages : List Content → List (ℕ × ℕ) → List ℕ → List ℕ
with_pages pages [] area = area
with_pages pages (pair ∷ pairs) area = with_pages pages pairs (spliced area (PAGE_SIZE * pair.0) (bytes_of (slice_get pages pair.1)))

-- ---- what a crash leaves

-- any bytes in the blocks of the pairs and up to their end, and the same elsewhere
pub record IsTornIn (pairs : List (ℕ × ℕ)) (old new : List ℕ) : Type 0 where
  pub elsewhere : (place : ℕ) → ¬ IsAmong pairs (place / PAGE_SIZE) → slice_get new place ≡ slice_get old place
  pub no_shorter : length old ≤ length new

-- an image of the disk whose pages may be torn in the blocks of the pairs
pub record IsTornImage (pairs : List (ℕ × ℕ)) (disk : Disk) (image : Image) : Type 0 where
  pub torn : (was : List ℕ) × disk.leaves Pages was × IsTornIn pairs was (image Pages)
  pub others : (other : Area) → other ≢ Pages → disk.leaves other (image other)

-- the blocks of the pairs count as written
pub record IsWritten (pairs : List (ℕ × ℕ)) (old new : Disk) : Type 0 where
  pub seen : IsTornIn pairs (old.seen Pages) (new.seen Pages)
  pub leaves : (bytes : List ℕ) → new.leaves Pages bytes → (was : List ℕ) × old.leaves Pages was × IsTornIn pairs was bytes
  pub other_seen : (other : Area) → other ≢ Pages → new.seen other ≡ old.seen other
  pub other_leaves : (other : Area) (bytes : List ℕ) → other ≢ Pages → new.leaves other bytes → old.leaves other bytes

-- ---- what is read

-- the bytes of a block, fewer than 8,192 where the area ends before
abbrev pub block_of : List ℕ → ℕ → List ℕ
block_of area block = take PAGE_SIZE (drop (PAGE_SIZE * block) area)

-- the page whose bytes stand there, or that they are no page's; of want of memory and faults nothing is said
abbrev pub IsPageAt : List ℕ → ℕ → Result Content PageFileFault → Type 0
IsPageAt area block (Ok page) = Spells (block_of area block) page
IsPageAt area block (Err faults.Memory) = ⊤
IsPageAt area block (Err (faults.Disk count)) = ⊤
IsPageAt area block (Err (faults.NotPage at)) = (at ≡ PAGE_SIZE * block) × ((page : Content) → ¬ Spells (block_of area block) page)
