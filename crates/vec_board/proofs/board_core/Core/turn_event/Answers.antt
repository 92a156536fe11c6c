use Rattle.std.proofs.Common.{IfSome, sym, subst}
use Rattle.vec_steps.specs.declared.ask.Ask.{Ask}
use Rattle.vec_board.specs.Serving.{SaysTurn}
use Rattle.vec_board.proofs.TurnLaws.{ends_say}
use Rattle.vec_board.proofs.board_core.Core.turn_event.Goals as goal

pub returns-in-EndVacuum-clause-says : goal.returns-in-EndVacuum-clause-says
returns-in-EndVacuum-clause-says c =
    subst (λ (a : Ask). IfSome c.end_of_vacuum.result (SaysTurn c.args.self.now a)) (sym c.in-EndVacuum.is)
    (ends_say c.args.self.now c.end_of_vacuum.result c.end_of_vacuum.ensures.ends)
