use Rattle.std.proofs.Common.{sym, ◌∙◌, arith}
use Rattle.page_redo.proofs.Rising.{rises_all, rises_strictly}
use Rattle.page_redo.proofs.list_pages.drop_entries.Goals as goal

pub drop_items-requires-clause-there : goal.drop_items-requires-clause-there
drop_items-requires-clause-there c = λ k d h.
    let r = rises_all 0 c.count.result c.args.gone.now (sym c.rise.ensures.told ∙ c.if-not-rise.false) k d h in
    (r.0, omega (arith, r.1, c.count.ensures))

pub drop_items-requires-clause-rising : goal.drop_items-requires-clause-rising
drop_items-requires-clause-rising c = rises_strictly 0 c.count.result c.args.gone.now (sym c.rise.ensures.told ∙ c.if-not-rise.false)
