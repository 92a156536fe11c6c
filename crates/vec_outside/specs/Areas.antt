-- Three areas of bytes in memory.
use Rattle.std.specs.Prelude.{ℕ, Bool, true, false, [], replicate}
use Rattle.vec_outside.specs.Disk.{Image, image_of}
use Rattle.vec_outside.specs.declared.disks.Area.{Area}
use Rattle.vec_outside.specs.declared.disks.Area.TheVariants.{Pages, Log0, Log1}
use Rattle.vec_outside.specs.declared.areas.Areas.{Areas}

-- the bytes of an area
abbrev pub bytes_of : Areas → Image
bytes_of areas = image_of areas.pages.items areas.log0.items areas.log1.items

-- the place of an area among the three, from 0
abbrev pub place_of : Area → ℕ
place_of Pages = 0
place_of Log0 = 1
place_of Log1 = 2

-- two areas are one
abbrev pub is_same : Area → Area → Bool
is_same Pages Pages = true
is_same Log0 Log0 = true
is_same Log1 Log1 = true
is_same a b = false

-- the bytes of a new disk: no pages, and 40 zero bytes in each log
abbrev pub empty_image : Image
empty_image = image_of [] (replicate 40 0) (replicate 40 0)
