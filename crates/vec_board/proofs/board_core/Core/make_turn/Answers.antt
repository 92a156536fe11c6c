use Rattle.vec_board.proofs.TurnLaws.{turn_legal}
use Rattle.vec_board.proofs.board_core.Core.make_turn.Goals as goal

pub returns-in-Some-clause-stands : goal.returns-in-Some-clause-stands
returns-in-Some-clause-stands c = λ all base s is may agrees.
    c.pass.ensures.stands all base s
    (turn_legal c.args.self.now c.args.desk all base s c.args.ask.now c.args.told.now c.in-Some.event c.in-Some.ensures.of c.in-Some.ensures.says may agrees)

pub returns-in-Some-clause-cause : goal.returns-in-Some-clause-cause
returns-in-Some-clause-cause c = λ all base s is may agrees.
    c.pass.ensures.cause all base s
    (turn_legal c.args.self.now c.args.desk all base s c.args.ask.now c.args.told.now c.in-Some.event c.in-Some.ensures.of c.in-Some.ensures.says may agrees)
