use Rattle.std.proofs.Common.{◌≡◌, Some, refl, arith}
use Rattle.std.specs.Prelude.{slice_get}
use Rattle.std.proofs.lemmas.Option.{slice_get_read}
use Rattle.page_bytes.specs.Content.{IsPage}
use Rattle.vec_board.proofs.DoomedPages.{pages_more, all_more}
use Rattle.vec_board.proofs.doomed.doomed_in.Goals as goal

pub loop-page-preserved : goal.loop-page-preserved
loop-page-preserved c =
    let here : slice_get c.args.pages.now c.loop-page.page-index ≡ Some c.page-item.result = slice_get_read c.args.pages.now _ _ _ refl (omega arith) c.page-item.is in
    record {
      told = pages_more c.args.params.now c.args.pages.now c.loop-page.page-index c.loop-page.sum c.doomed_on-sum.result c.page-item.result here
          c.loop-page.invariant.told c.doomed_on-sum.ensures.told;
      pages = all_more IsPage c.args.pages.now c.loop-page.page-index c.page-item.result here c.loop-page.invariant.pages c.doomed_on-sum.ensures.page;
      low = omega (arith, c.loop-page.invariant.low, c.doomed_on-sum.ensures.low);
    }
