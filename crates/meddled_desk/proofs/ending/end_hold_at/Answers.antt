use Rattle.std.proofs.Common.{◌≡◌, ℕ, List, subst}
use Rattle.vec_history.specs.declared.event.Act.{Act}
use Rattle.vec_history.specs.declared.gate.Hold.{Hold as Holding}
use Rattle.vec_history.specs.Gates.{HoldsSince}
use Rattle.vec_board.specs.Standing.{acts_of}
use Rattle.meddled_desk.proofs.Ends.{taken_next}
use Rattle.meddled_desk.proofs.ending.end_hold_at.Goals as goal

pub returns-clause-ended : goal.returns-clause-ended
returns-clause-ended g c = λ base stands from.
    let desk = c.in-Some.desk in
    let only = subst (λ (l : List Act). (other : ℕ) (hold : Holding) → HoldsSince l other c.args.gate hold c.args.k → other ≡ desk) c.acts.ensures
    c.in-Some.ensures.only in
    taken_next (acts_of c.args.board.now.core) (acts_of c.end_hold.new.board.core) c.args.gate c.args.k desk only c.end_hold.ensures.holds
    (c.end_hold.ensures.ended base stands) from
