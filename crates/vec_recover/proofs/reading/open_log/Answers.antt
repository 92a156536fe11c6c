use Rattle.std.proofs.Common.{ℕ, List, subst, inr}
use Rattle.std.specs.Prelude.{Result, Ok, Err}
use Rattle.page_bytes.specs.Content.{Content}
use Rattle.page_log.specs.Opening.{Epoch, epoch_of}
use Rattle.page_log.specs.declared.opening_fault.OpenFault.{OpenFault}
use Rattle.vec_outside.specs.declared.disks.Area.TheVariants.{Pages}
use Rattle.vec_recover.specs.Recovering.{AreFirst, IsImaged}
use Rattle.vec_recover.specs.declared.reading.ReadIndex.{ReadIndex}
use Rattle.vec_recover.specs.Parts.{AreMarked, IsOpened, Rebuilds}
use Rattle.vec_recover.proofs.reading.open_log.Goals as goal

by_result : (area : List ℕ) (epoch : Epoch) (first : List Content) (r : Result ReadIndex OpenFault) → AreFirst epoch.images area epoch.head.blocks first → Rebuilds epoch first r
    → IsOpened area epoch r
by_result area epoch first (Ok read) are x = (first, are, x)
by_result area epoch first (Err fault) are x = inr (first, are, x)

pub returns-clause-opened : goal.returns-clause-opened
returns-clause-opened g c told =
    let log = c.args.log in
    let marked : AreMarked c.in-Ok.marks.marks.items (IsImaged log.images.items) =
    subst (λ (images : List (ℕ × Content)). AreMarked c.in-Ok.marks.marks.items (IsImaged images)) c.as_slice.ensures.value c.in-Ok.ensures in
    by_result ((g.D.Disks.disk c.args.disks.now).seen Pages) (epoch_of log) c.in-Ok-first_pages.pages.items c.rebuild.result (c.in-Ok-first_pages.ensures.ok told)
    (c.rebuild.ensures.rebuilt log.images.items marked log.blocks)
