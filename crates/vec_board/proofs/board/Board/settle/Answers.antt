use Rattle.vec_board.proofs.SettledWhole.{settled_whole}
use Rattle.vec_board.proofs.LoneLaws.{settled_desk}
use Rattle.vec_board.proofs.board.Board.settle.Goals as goal

pub returns-clause-stands : goal.returns-clause-stands
returns-clause-stands g c = λ base s.
    settled_whole c.settle.result c.args.self.now.core c.settle.new.self c.args.self.now.pages.pages.items (g.D.Disks.count c.args.self.now.disks)
    (g.D.Disks.count c.settle.new.disks) base c.args.desk c.settle.ensures.ok c.settle.ensures.err c.settle.ensures.later s

pub returns-clause-desk : goal.returns-clause-desk
returns-clause-desk g c = λ number.
    settled_desk c.args.self.now.core c.settle.new.self c.args.desk (g.D.Disks.count c.args.self.now.disks) (g.D.Disks.count c.settle.new.disks)
    c.settle.result c.settle.ensures.ok c.settle.ensures.err number
