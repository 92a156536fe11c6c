use Rattle.std.proofs.Common.{◌≡◌, ℕ, ◌+◌, ◌++◌, map, drop, ap, ◌∙◌, arith}
use Rattle.vec_steps.specs.Telling.{centre_told}
use Rattle.page_sets.specs.Telling.{centre_shown, all_shown}
use Rattle.page_sets.proofs.Shows.{one_more}
use Rattle.page_sets.proofs.centres.fill_centres.Goals as goal

pub items-preserved : goal.items-preserved
items-preserved c =
    let show = centre_shown c.args.params.now in
    let next : c.args.from + (c.items.before + 1) ≡ c.args.from + c.items.before + 1 = omega arith in
    ap (λ (k : ℕ). map centre_told c.add_centre.new.centres ++ all_shown show k (drop (c.items.before + 1) c.args.page.now.items)) next
    ∙ one_more show (c.args.from + c.items.before) c.items.before c.args.page.now.items (map centre_told c.items.centres) (map centre_told c.add_centre.new.centres)
    (map centre_told c.args.centres.now ++ all_shown show c.args.from c.args.page.now.items) (omega (arith, c.items-test.true, c.count-before-end.ensures)) c.items.invariant
    (λ x is. c.in_ok-add_centre.ensures x is ∙ ap (λ (n : ℕ). map centre_told c.items.centres ++ show (c.args.from + n) x) c.from.ensures)
