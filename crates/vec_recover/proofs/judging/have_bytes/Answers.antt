use Rattle.std.proofs.Common.{◌≡◌, ◌≤◌, Some, length, slice_get, refl, arith}
use Rattle.std.proofs.lemmas.Option.{slice_get_read}
use Rattle.page_bytes.specs.Content.{IsPage}
use Rattle.vec_recover.proofs.Judged.{all_more, all_of}
use Rattle.vec_recover.proofs.judging.have_bytes.Goals as goal

pub loop-page-preserved : goal.loop-page-preserved
loop-page-preserved c =
    let here : slice_get c.args.pages.now c.loop-page.page-index ≡ Some c.page-item.result = slice_get_read c.args.pages.now _ _ _ refl (omega arith) c.page-item.is in
    all_more IsPage c.args.pages.now c.loop-page.page-index c.page-item.result here c.loop-page.invariant c.bytes.ensures.page

pub returns : goal.returns
returns c =
    let past : length c.args.pages.now ≤ c.loop-page.page-index = omega (arith, c.loop-page-test.false) in
    all_of IsPage c.args.pages.now c.loop-page.page-index past c.loop-page.invariant
