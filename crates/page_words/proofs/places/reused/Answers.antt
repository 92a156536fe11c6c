use Rattle.std.proofs.Common.{◌+◌, None, Some, arith}
use Rattle.page_words.proofs.PutWords.{reused_here}
use Rattle.page_words.specs.Placing.{reused_from}
use Rattle.page_words.proofs.places.reused.Goals as goal

pub returns-in-Some : goal.returns-in-Some
returns-in-Some c =
    reused_here c.args.params.now c.args.ask.block c.args.ask.level (c.items.before + 1) c.items.before c.args.page.now.items (Some c.in-Some.place)
    (reused_from c.args.params.now c.args.ask.block c.args.ask.level 1 c.args.page.now.items)
    (omega (arith, c.items-test.true, c.count-before-end.ensures)) (λ x is. c.in-Some.ensures x is) c.items.invariant

pub items-preserved : goal.items-preserved
items-preserved c =
    reused_here c.args.params.now c.args.ask.block c.args.ask.level (c.items.before + 1) c.items.before c.args.page.now.items None
    (reused_from c.args.params.now c.args.ask.block c.args.ask.level 1 c.args.page.now.items)
    (omega (arith, c.items-test.true, c.count-before-end.ensures)) (λ x is. c.in_default.ensures x is) c.items.invariant
