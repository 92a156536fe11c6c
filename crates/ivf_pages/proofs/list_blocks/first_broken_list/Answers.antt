use Rattle.std.proofs.Common.{◌≡◌, ◌<◌, ◌+◌, Option, Some, None, ℕ, sym, ap, subst, ◌∙◌, arith}
use Rattle.page_redo.specs.PageChanges.{list_block}
use Rattle.ivf_pages.specs.Standing.{lists_end}
use Rattle.ivf_pages.specs.Walking.{broken_from, IsFirstAimless}
use Rattle.ivf_pages.proofs.TuplePages.{uncounted, aimless_block, all_counted}
use Rattle.ivf_pages.proofs.list_blocks.first_broken_list.Goals as goal

pub returns-then-not-has_count : goal.returns-then-not-has_count
returns-then-not-has_count c =
    let less : c.loop-block.block < broken_from c.args.params.now c.args.aimless = omega (arith, c.loop-block-test.true, c.broken_from-block-end.ensures) in
    uncounted c.args.params.now c.args.pages.now c.requires.in_range c.args.aimless c.requires.aimless c.loop-block.block c.loop-block.auto.block less
    c.loop-block.invariant (sym c.has_count.ensures ∙ c.if-not-has_count.true)

pub returns-in-Some : goal.returns-in-Some
returns-in-Some c =
    let p = c.args.params.now in
    let list = c.in-Some.list in
    let first : IsFirstAimless p c.args.pages.now (Some list) = subst (λ (o : Option ℕ). IsFirstAimless p c.args.pages.now o) c.in-Some.is c.requires.aimless in
    let end : c.broken_from-block-end.result ≡ list_block p list = c.broken_from-block-end.ensures ∙ ap (broken_from p) c.in-Some.is in
    aimless_block p c.args.pages.now c.requires.in_range list c.block_of.result c.loop-block.block first c.block_of.ensures
    (omega (arith, end, c.loop-block-test.false)) c.loop-block.invariant

pub returns-in-None : goal.returns-in-None
returns-in-None c =
    let p = c.args.params.now in
    let first : IsFirstAimless p c.args.pages.now None = subst (λ (o : Option ℕ). IsFirstAimless p c.args.pages.now o) c.in-None.is c.requires.aimless in
    let end : c.broken_from-block-end.result ≡ lists_end p + 1 = c.broken_from-block-end.ensures ∙ ap (broken_from p) c.in-None.is in
    all_counted p c.args.pages.now c.requires.in_range c.loop-block.block first (omega (arith, end, c.loop-block-test.false)) c.loop-block.invariant
