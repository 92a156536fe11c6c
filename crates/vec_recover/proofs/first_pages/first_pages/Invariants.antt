use Rattle.std.proofs.Common.{◌≤◌, length}
use Rattle.std.specs.Vec.Iter.{into_iter_items}
use Rattle.vec_outside.specs.declared.disks.Area.TheVariants.{Pages}
use Rattle.page_log.specs.Opening.{RisesBelow}
use Rattle.page_log.specs.Steps.{OnlyReads}
use Rattle.vec_recover.proofs.PagesBefore.{AreSoFar}
use Rattle.vec_recover.proofs.first_pages.first_pages.Given as goal

-- the pages up to here stand, and the images that are left rise from here on
abbrev pub invariant-loop-image : goal.invariant-loop-image
invariant-loop-image g l =
    (goal.iterator-loop-image g).can_next l.image-iterator × (goal.iterator-loop-image g).is_finite l.image-iterator
    × RisesBelow (length l.pages.items) l.fn.blocks (into_iter_items l.image-iterator)
    × (length l.pages.items ≤ l.fn.blocks)
    × (g.D.Disks.told → AreSoFar l.fn.images.items (into_iter_items l.image-iterator) ((g.D.Disks.disk l.fn.disks).seen Pages) l.pages.items)
    × OnlyReads (g.D.Disks.disk l.fn.disks) (g.D.Disks.disk l.disks)
    × (g.D.Disks.count l.fn.disks ≤ g.D.Disks.count l.disks)
