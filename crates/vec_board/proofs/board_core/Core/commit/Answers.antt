use Rattle.vec_board.proofs.FromBefore.{made_comes}
use Rattle.vec_board.proofs.board_core.Core.commit.Goals as goal

pub returns-in-Ok-clause-comes : goal.returns-in-Ok-clause-comes
returns-in-Ok-clause-comes g c = λ all base may.
    made_comes c.args.self.now c.prepare.new.self c.prepare.ensures.kept c.record.new.self _ _ all base c.args.desk c.args.event c.args.left c.args.grown
    may c.record.ensures.made c.record.ensures.number (c.in-Ok.ensures.comes all base c.args.left may)

pub returns-in-Err-clause-comes : goal.returns-in-Err-clause-comes
returns-in-Err-clause-comes g c = λ all base may. c.in-Err.ensures.comes all base c.args.left may
