use Rattle.std.proofs.Common.{arith}
use Rattle.page_words.proofs.Counting.{one_kept}
use Rattle.page_words.proofs.elements.count_left.Goals as goal

pub ids-preserved : goal.ids-preserved
ids-preserved c =
    let one = one_kept c.args.ids.now c.ids.mask c.ids._at c.ids-test.true in
    (omega (arith, c.ids.invariant.0), omega (arith, one, c.ids.invariant.1))
