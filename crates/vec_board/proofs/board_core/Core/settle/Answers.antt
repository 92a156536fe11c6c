use Rattle.page_log.specs.Parts.{unsettled}
use Rattle.page_log.proofs.LogSteps.{comes_same}
use Rattle.vec_board.proofs.board_core.Core.settle.Goals as goal

pub returns-in-Err-clause-from : goal.returns-in-Err-clause-from
returns-in-Err-clause-from g c =
    comes_same (unsettled c.args.self.now.log) (unsettled c.make_room.new.self.log) (g.D.Disks.disk c.args.disks.now) (g.met.D.Disks.only_now c.args.disks.now)
    c.in-Err.ensures.kept.log
