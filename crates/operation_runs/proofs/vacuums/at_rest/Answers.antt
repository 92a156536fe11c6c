use Rattle.std.proofs.Common.{List, subst, sym}
use Rattle.vec_history.specs.declared.event.Act.{Act}
use Rattle.vec_steps.specs.Calls.{HoldsNone}
use Rattle.vec_board.specs.Boards.{HoldsAlone}
use Rattle.vec_board.specs.Standing.{acts_of}
use Rattle.operation_runs.proofs.vacuums.at_rest.Goals as goal

pub over-requires : goal.over-requires
over-requires c = subst (λ b. HoldsAlone (acts_of b.core) 0) (sym c.into_board-board.ensures) c.args.desk.alone

pub returns : goal.returns
returns c =
    subst (λ b. HoldsNone (acts_of b.core) 0) (sym c.over.ensures)
    (subst (λ (l : List Act). HoldsNone l 0) c.acts.ensures (c.none_held.ensures c.if-not-none_held.false))
