use Rattle.std.proofs.Common.{length, List, ap, ◌∙◌}
use Rattle.vec_history.specs.declared.event.Act.{Act}
use Rattle.vec_board.proofs.Ranges.{in_range_had}
use Rattle.vec_board.proofs.Made.{when_ok, of_ok}
use Rattle.vec_steps.specs.Doing.{Ended}
use Rattle.vec_board.proofs.TellingLooks.{still_step, look_makes, pages_say}
use Rattle.vec_board.proofs.board_core.Core.look.Goals as goal

pub look-requires-clause-params : goal.look-requires-clause-params
look-requires-clause-params g c = in_range_had c.args.self.now.params c.args.self.now.in_range

pub returns-in_default-clause-ok : goal.returns-in_default-clause-ok
returns-in_default-clause-ok g c = λ is. when_ok c.look.result (λ ok.
    still_step _ _ _ c.args.ask.now c.look.new.told Ended (look_makes c.args.self.now.params c.args.ask.now c.look.new.told is)
    (c.look.ensures.at ∙ ap (λ (l : List Act). length l) c.acts.ensures)
    (pages_say c.args.self.now (g.P.PageSet.held c.args.pages.now) c.args.desk c.args.ask.now c.look.new.told is c.in_default.not-Meta
    (λ all graph bytes stands params has may. of_ok c.look.result ok (c.look.ensures.nodes all graph bytes stands params has may))
    (λ all graph bytes stands has may. of_ok c.look.result ok (c.look.ensures.lists all graph bytes stands has may))))
