use Rattle.std.proofs.Common.{drop}
use Rattle.vec_recover.specs.Recovering.{IsImaged}
use Rattle.vec_recover.proofs.Marking.{IsMarking}
use Rattle.vec_recover.proofs.unwritten.Marks.of_images.Given as goal

-- the images so far are marked
abbrev pub invariant-loop-image : goal.invariant-loop-image
invariant-loop-image l = IsMarking (IsImaged l.images) (IsImaged (drop l.image-index l.images)) l.marks.items
