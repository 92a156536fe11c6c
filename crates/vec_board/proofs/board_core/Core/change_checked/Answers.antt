use Rattle.std.proofs.Common.{sym, ◌∙◌}
use Rattle.vec_board.proofs.Made.{same_touched, lasting_made, passing_made, ok_then, never_err}
use Rattle.vec_board.proofs.board_core.Core.change_checked.Goals as goal

pub returns-then-not-is_lasting-clause-made : goal.returns-then-not-is_lasting-clause-made
returns-then-not-is_lasting-clause-made g c = λ all long has.
    passing_made _ all c.args.event.now _ _ (sym c.is_lasting.ensures ∙ c.if-not-is_lasting.true)

pub returns-in-Ok-clause-made : goal.returns-in-Ok-clause-made
returns-in-Ok-clause-made g c = λ all long has.
    let lasting = sym c.is_lasting.ensures ∙ c.if-not-is_lasting.false in
    ok_then c.redo.result (λ done. lasting_made _ _ _ all c.args.event.now c.args.self.now.params c.args.self.now.number lasting c.in-Ok.ensures.held done)
    (c.redo.ensures.done all long (same_touched _ _ all _ _ c.in-Ok.ensures.held has))

pub returns-in-Ok-clause-cause : goal.returns-in-Ok-clause-cause
returns-in-Ok-clause-cause g c = λ all long has may.
    let lasting = sym c.is_lasting.ensures ∙ c.if-not-is_lasting.false in
    never_err _ c.redo.result (c.redo.ensures.fits all long (same_touched _ _ all _ _ c.in-Ok.ensures.held has) (may.fits lasting))
