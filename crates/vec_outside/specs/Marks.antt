-- A mark for each area.
use Rattle.std.specs.Prelude.{Bool, true, IsTrue}
use Rattle.vec_outside.specs.declared.disks.Area.{Area}
use Rattle.vec_outside.specs.declared.disks.Area.TheVariants.{Pages, Log0, Log1}
use Rattle.vec_outside.specs.declared.marks.Marks.{Marks}

abbrev pub is_marked : Marks → Area → Bool
is_marked marks Pages = marks.pages
is_marked marks Log0 = marks.log0
is_marked marks Log1 = marks.log1

-- the same marks, and one on this area
abbrev pub marked : Marks → Area → Marks
marked marks Pages = record marks { pages = true }
marked marks Log0 = record marks { log0 = true }
marked marks Log1 = record marks { log1 = true }

-- a mark stays
abbrev pub Stays : Marks → Marks → Type 0
Stays old new = (area : Area) → IsTrue (is_marked old area) → IsTrue (is_marked new area)
