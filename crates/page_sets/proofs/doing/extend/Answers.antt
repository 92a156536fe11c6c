use Rattle.std.proofs.Common.{◌≡◌, ℕ, subst, arith}
use Rattle.page_redo.specs.Growing.{fresh_page}
use Rattle.page_sets.specs.Committing.{IsExtended}
use Rattle.page_sets.proofs.doing.extend.Goals as goal

pub returns-clause-done : goal.returns-clause-done
returns-clause-done g c =
    let i = c.loop-block.invariant in
    let high = c.loop-block.auto.block-end c.requires.upward in
    let past = c.loop-block-test.false in
    let same : c.loop-block.block ≡ c.args.upto = omega (arith, high, past) in
    subst (λ (n : ℕ). IsExtended (g.P.PageSet.held c.args.pages.now) (g.P.PageSet.held c.loop-block.pages) c.args.blocks n (fresh_page c.args.kind)) same i.0
