use Rattle.std.proofs.Common.{drop, ◌↔◌}
use Rattle.vec_event.specs.Spelling.{RisesFrom}
use Rattle.vec_board.proofs.writable.rises.Given as goal

-- what is left rises just where all does
abbrev pub invariant-loop-off : goal.invariant-loop-off
invariant-loop-off l = RisesFrom l.low (drop l.off-index l.offsets) ↔ RisesFrom 0 l.offsets
