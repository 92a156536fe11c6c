use Rattle.std.proofs.Common.{◌≡◌, ◌⊎◌, refl}
use Rattle.std.specs.Prelude.{Contains}
use Rattle.page_redo.specs.Redo.{touched}
use Rattle.vec_recover.proofs.RedoneBlocks.{blocks_same}
use Rattle.vec_recover.proofs.redoing.redo_touched.Goals as goal

pub returns-in-Some : goal.returns-in-Some
returns-in-Some c =
    blocks_same c.args.how c.args.event.now (λ block. (block ≡ c.in-Some.first) ⊎ (block ≡ c.in-Some.other)) (Contains (touched c.args.event.now c.args.how.params))
    c.args.pages.now.items c.redo_both.new.pages.items (λ block. ((c.in-Some.ensures block).1, (c.in-Some.ensures block).0)) c.redo_both.result c.redo_both.ensures

pub returns-in-None : goal.returns-in-None
returns-in-None c = record {
  count = refl;
  takes = λ block is. absurd (c.in-None.ensures block is);
  there = λ block page is has. absurd (c.in-None.ensures block is);
  elsewhere = λ block apart. refl;
}
