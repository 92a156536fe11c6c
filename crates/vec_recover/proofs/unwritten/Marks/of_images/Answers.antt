use Rattle.std.proofs.Common.{◌≡◌, ◌≤◌, ◌+◌, [], ℕ, List, Some, length, drop, slice_get, refl, subst, arith}
use Rattle.std.proofs.lemmas.Option.{slice_get_read}
use Rattle.page_bytes.specs.Content.{Content}
use Rattle.vec_recover.specs.Recovering.{IsImaged}
use Rattle.vec_recover.specs.Parts.{AreMarkedMore}
use Rattle.vec_recover.proofs.Left.{left_at, left_none}
use Rattle.vec_recover.proofs.Marking.{IsMarking, marks_end, marks_more, marks_none}
use Rattle.vec_recover.proofs.unwritten.Marks.of_images.Goals as goal

pub loop-image-init : goal.loop-image-init
loop-image-init c = marks_none (IsImaged c.args.images.now) c.in_ok-marks.marks.items c.in_ok-marks.ensures.0 c.in_ok-marks.ensures.1

pub loop-image-preserved : goal.loop-image-preserved
loop-image-preserved c =
    let images = c.args.images.now in
    let k = c.loop-image.image-index in
    let here : slice_get images k ≡ Some c.image-item.result = slice_get_read images _ _ _ refl (omega arith) c.image-item.is in
    marks_more (IsImaged images) (λ block. block ≡ c.image-item.result.0) (IsImaged (drop (k + 1) images)) c.loop-image.marks.items c.mark.new.marks.items
    (subst (λ (l : List (ℕ × Content)). IsMarking (IsImaged images) (IsImaged l) c.loop-image.marks.items) (left_at images k c.image-item.result here) c.loop-image.invariant)
    (subst (λ (n : ℕ). AreMarkedMore c.loop-image.marks.items c.mark.new.marks.items (λ block. block ≡ n)) c.from.ensures c.mark.ensures)

pub returns : goal.returns
returns c =
    let images = c.args.images.now in
    let past : length images ≤ c.loop-image.image-index = omega (arith, c.loop-image-test.false) in
    marks_end (IsImaged images) (IsImaged []) c.loop-image.marks.items
    (subst (λ (l : List (ℕ × Content)). IsMarking (IsImaged images) (IsImaged l) c.loop-image.marks.items) (left_none images c.loop-image.image-index past) c.loop-image.invariant)
    (λ block none. none)
