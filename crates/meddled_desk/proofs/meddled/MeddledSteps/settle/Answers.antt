use Rattle.vec_board.proofs.LoneLaws.{any_settled_spare, any_settles, any_not_settled}
use Rattle.meddled_desk.proofs.meddled.MeddledSteps.settle.Goals as goal

pub returns-clause-ok : goal.returns-clause-ok
returns-clause-ok g c = any_settles c.args.self.now.board.core c.settle.new.self.core (g.D.Disks.count c.args.self.now.board.disks) (g.D.Disks.count c.settle.new.self.disks) c.settle.result c.settle.ensures.ok

pub returns-clause-err : goal.returns-clause-err
returns-clause-err g c = any_not_settled c.args.self.now.board.core c.settle.new.self.core (g.D.Disks.count c.args.self.now.board.disks) (g.D.Disks.count c.settle.new.self.disks) c.settle.result c.settle.ensures.err

pub returns-clause-spare : goal.returns-clause-spare
returns-clause-spare g c = any_settled_spare c.args.self.now.board.core c.settle.new.self.core (g.D.Disks.count c.args.self.now.board.disks) (g.D.Disks.count c.settle.new.self.disks) c.settle.result c.settle.ensures.ok c.settle.ensures.err
