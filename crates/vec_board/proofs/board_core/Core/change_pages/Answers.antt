use Rattle.std.proofs.Common.{refl}
use Rattle.vec_board.proofs.board_core.Core.change_pages.Goals as goal

pub returns-in-Err-clause-cause : goal.returns-in-Err-clause-cause
returns-in-Err-clause-cause g c = λ all long has may. (c.in-Err.ensures.cause all may, λ block. refl)
