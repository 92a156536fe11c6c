use Rattle.vec_steps.specs.Calls.{HoldsNone}
use Rattle.vec_board.specs.Standing.{acts_of}
use Rattle.meddled_desk.proofs.tests.rows.used_often.Given as goal

-- the desk holds no gate
abbrev pub invariant-time : goal.invariant-time
invariant-time l = HoldsNone (acts_of l.desk.board.core) 0
