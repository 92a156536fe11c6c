use Rattle.std.proofs.Common.{ℕ, sym, ap, subst, ◌∙◌}
use Rattle.vec_steps.specs.Index.{OfNodes}
use Rattle.vec_steps.specs.Granting.{AgreesAtTake}
use Rattle.vec_board.specs.Standing.{acts_of}
use Rattle.vec_board.specs.Boards.{StandsWhole}
use Rattle.meddled_desk.proofs.Others.{meddles_then}
use Rattle.meddled_desk.proofs.meddled.make_way.Goals as goal

pub returns-clause-meddles : goal.returns-clause-meddles
returns-clause-meddles g c =
    let base = c.args.judge.now.base.now in
    let count = g.D.Disks.count in
    let was = c.args.board.now in
    let one = c.play_next.new.board in
    let two = c.play_until.new.board in
    let end = c.end_holds.new.board in
    meddles_then base (count was.disks) (count two.disks) was.core two.core end.core was.pages.pages.items two.pages.pages.items end.pages.pages.items
    (ap count (c.play_until.ensures.disks ∙ c.play_next.ensures.disks))
    (meddles_then base (count was.disks) (count one.disks) was.core one.core two.core was.pages.pages.items one.pages.pages.items two.pages.pages.items
    (ap count c.play_next.ensures.disks) c.play_next.ensures.meddles c.play_until.ensures.meddles)
    (c.end_holds.ensures.meddles base)

pub returns-clause-agrees : goal.returns-clause-agrees
returns-clause-agrees g c = λ stands.
    let base = c.args.judge.now.base.now in
    let count = g.D.Disks.count in
    let was = c.args.board.now in
    let one = c.play_next.new.board in
    let two = c.play_until.new.board in
    let same = ap count (c.play_until.ensures.disks ∙ c.play_next.ensures.disks) in
    let first = meddles_then base (count was.disks) (count one.disks) was.core one.core two.core was.pages.pages.items one.pages.pages.items
    two.pages.pages.items (ap count c.play_next.ensures.disks) c.play_next.ensures.meddles c.play_until.ensures.meddles in
    let there = subst (λ (n : ℕ). StandsWhole two.core two.pages.pages.items n (OfNodes base)) (sym same) (first.stands stands) in
    subst (AgreesAtTake (acts_of c.end_holds.new.board.core) 0) (sym c.in-Take.is) (c.end_holds.ensures.agree base there)
