use Rattle.std.proofs.Common.{Bool, sym, subst}
use Rattle.std.proofs.lemmas.Bool.{eq-eqb}
use Rattle.vec_recover.specs.Parts.{IsRedoneAtBoth}
use Rattle.vec_recover.proofs.RedoneBlocks.{first_not, same_block, then_other}
use Rattle.vec_recover.proofs.redoing.redo_both.Goals as goal

pub returns-then-not-redo_at : goal.returns-then-not-redo_at
returns-then-not-redo_at c =
    first_not c.args.how c.args.event.now c.args.first c.args.other c.args.pages.now.items c.redo_at.new.pages.items c.if-not-redo_at.ensures

pub returns-then-first-other : goal.returns-then-first-other
returns-then-first-other c =
    subst (λ (b : Bool). IsRedoneAtBoth c.args.how c.args.event.now c.args.first c.args.other c.args.pages.now.items c.redo_at.new.pages.items b)
    (sym (eq-eqb _ _ c.if-first-other.true))
    (same_block c.args.how c.args.event.now c.args.first c.args.other c.args.pages.now.items c.redo_at.new.pages.items c.if-first-other.true c.if-not-redo_at.ensures)

pub returns-else-first-other : goal.returns-else-first-other
returns-else-first-other c =
    then_other c.args.how c.args.event.now c.args.first c.args.other c.args.pages.now.items c.redo_at.new.pages.items c.redo_at-else-first-other.new.pages.items
    c.redo_at-else-first-other.result c.if-first-other.false c.if-not-redo_at.ensures c.redo_at-else-first-other.ensures
