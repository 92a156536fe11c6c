use Rattle.vec_board.proofs.LoneLaws.{any_settled_desk, any_settled_comes, any_settled_holds, any_settled_spare, any_settles, any_not_settled}
use Rattle.vec_board.proofs.lone_desk.LoneDeskSteps.settle.Goals as goal

pub invariant_of-self : goal.invariant_of-self
invariant_of-self g c = record { alone = any_settled_holds c.args.self.now.board.core c.settle.new.self.core (g.D.Disks.count c.args.self.now.board.disks) (g.D.Disks.count c.settle.new.self.disks) c.settle.result c.settle.ensures.ok c.settle.ensures.err c.args.self.now.alone }

pub returns-clause-goes : goal.returns-clause-goes
returns-clause-goes g c = record {
  stays = any_settled_desk c.args.self.now.board.core c.settle.new.self.core (g.D.Disks.count c.args.self.now.board.disks) (g.D.Disks.count c.settle.new.self.disks) c.settle.result c.settle.ensures.ok c.settle.ensures.err;
  still_stands = λ base s. c.settle.ensures.stands base s;
  comes = any_settled_comes c.args.self.now.board.core c.settle.new.self.core (g.D.Disks.count c.args.self.now.board.disks) (g.D.Disks.count c.settle.new.self.disks) c.settle.result c.settle.ensures.ok c.settle.ensures.err;
}

pub returns-clause-ok : goal.returns-clause-ok
returns-clause-ok g c = any_settles c.args.self.now.board.core c.settle.new.self.core (g.D.Disks.count c.args.self.now.board.disks) (g.D.Disks.count c.settle.new.self.disks) c.settle.result c.settle.ensures.ok

pub returns-clause-err : goal.returns-clause-err
returns-clause-err g c = any_not_settled c.args.self.now.board.core c.settle.new.self.core (g.D.Disks.count c.args.self.now.board.disks) (g.D.Disks.count c.settle.new.self.disks) c.settle.result c.settle.ensures.err

pub returns-clause-spare : goal.returns-clause-spare
returns-clause-spare g c = any_settled_spare c.args.self.now.board.core c.settle.new.self.core (g.D.Disks.count c.args.self.now.board.disks) (g.D.Disks.count c.settle.new.self.disks) c.settle.result c.settle.ensures.ok c.settle.ensures.err
