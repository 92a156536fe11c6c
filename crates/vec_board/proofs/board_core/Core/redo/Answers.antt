use Rattle.vec_board.proofs.Ranges.{in_range_had}
use Rattle.vec_board.proofs.board_core.Core.redo.Goals as goal

pub commit-requires-clause-params : goal.commit-requires-clause-params
commit-requires-clause-params g c = in_range_had c.args.self.now.params c.args.self.now.in_range
