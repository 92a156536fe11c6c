use Rattle.std.proofs.Common.{Bool, ◌&&◌, ◌+◌, get_or, drop, refl, sym, ap, ◌∙◌}
use Rattle.page_redo.specs.PageChanges.{rises}
use Rattle.page_redo.proofs.Rising.{rises_more}
use Rattle.page_redo.proofs.list_pages.rise.Goals as goal

pub returns-then-not-is_next : goal.returns-then-not-is_next
returns-then-not-is_next c =
    let gone = c.args.gone.now in
    let i = c.offsets.off-index in
    let off = get_or gone i 0 in
    record { told = sym (sym c.offsets.invariant ∙ rises_more c.offsets.low c.args.count off i gone c.offsets-test.true refl ∙ ap (λ (b : Bool). b && rises off c.args.count (drop (i + 1) gone)) (sym c.is_next.ensures ∙ c.if-not-is_next.true)) }
