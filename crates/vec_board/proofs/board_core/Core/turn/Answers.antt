use Rattle.std.proofs.Common.{◌≡◌, List, length, sym, ap, subst, ◌∙◌}
use Rattle.vec_history.specs.declared.event.Act.{Act}
use Rattle.vec_steps.specs.declared.told.Told.{Told}
use Rattle.vec_steps.specs.declared.fault.StepFault.{StepFault}
use Rattle.vec_steps.specs.Desks.{Asks}
use Rattle.vec_steps.specs.Calls.{IsCause}
use Rattle.vec_board.specs.Standing.{acts_of}
use Rattle.vec_board.specs.Looking.{desk_of}
use Rattle.vec_board.specs.Serving.{StandsSomehow}
use Rattle.vec_board.proofs.SteppedBy.{failed_still}
use Rattle.vec_board.proofs.TurnLaws.{turned, turn_made, turn_summary, not_busy}
use Rattle.vec_board.proofs.board_core.Core.turn.Goals as goal

pub returns-in-Ok-clause-ok : goal.returns-in-Ok-clause-ok
returns-in-Ok-clause-ok c = λ idle.
    turned c.args.self.now c.make_turn.new.self c.args.desk c.args.ask.now c.make_turn.new.told c.in-Ok.ensures.made
    (ap (λ (t : Told). t.at) c.make_turn.ensures.told ∙ ap (λ (l : List Act). length l) c.acts.ensures)

pub returns-in-Ok-clause-made : goal.returns-in-Ok-clause-made
returns-in-Ok-clause-made c = λ idle.
    turn_made c.args.self.now c.make_turn.new.self c.args.desk c.args.ask.now c.make_turn.new.told c.in-Ok.ensures.made

pub returns-in-Ok-clause-still : goal.returns-in-Ok-clause-still
returns-in-Ok-clause-still c = λ busy.
    absurd (not_busy c.args.ask.now c.make_turn.new.told (ap (λ (t : Told). t.word) c.make_turn.ensures.told) busy)

pub returns-in-Err-clause-err : goal.returns-in-Err-clause-err
returns-in-Err-clause-err c = λ is.
    failed_still (Asks (StandsSomehow c.args.self.now) (desk_of c.args.self.now c.args.desk) (acts_of c.args.self.now) c.args.ask.now)
    (desk_of c.args.self.now c.args.desk) (acts_of c.args.self.now) (acts_of c.make_turn.new.self) c.args.ask.now c.in-Err.fault
    c.in-Err.ensures.no_disk c.in-Err.ensures.kept.acts
    (λ base asks.
    let s = asks.stood.1 in
    let agrees = (c.agrees.ensures.told (acts_of c.args.self.now) s.told).0 c.if-not-agrees.false in
    subst (λ (f : StepFault). IsCause (desk_of c.args.self.now c.args.desk) base (acts_of c.make_turn.new.self) c.args.ask.now f)
    (sym (c.in-Err.ensures.cause asks.stood.0 base s is asks.may agrees)) tt)

pub returns-in-Ok-clause-summary : goal.returns-in-Ok-clause-summary
returns-in-Ok-clause-summary c = turn_summary c.args.self.now c.make_turn.new.self c.args.desk c.args.ask.now c.make_turn.new.told c.in-Ok.ensures.made
