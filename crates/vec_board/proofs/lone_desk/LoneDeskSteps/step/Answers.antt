use Rattle.vec_steps.specs.Desks.{Asks}
use Rattle.vec_board.specs.Standing.{acts_of}
use Rattle.vec_board.specs.Looking.{desk_of}
use Rattle.vec_board.specs.Boards.{StandsWhole}
use Rattle.vec_board.proofs.SteppedBy.{failed_still}
use Rattle.vec_board.proofs.WholeSets.{refused_disk}
use Rattle.vec_board.proofs.ServedLaws.{served_spare}
use Rattle.vec_board.proofs.LoneLaws.{any_comes, any_holds, idle_by, busy_is, lone_agrees}
use Rattle.vec_board.proofs.lone_desk.LoneDeskSteps.step.Goals as goal

pub invariant_of-self : goal.invariant_of-self
invariant_of-self g c = record {
  alone = any_holds c.serve.result c.args.self.now.board.core c.serve.new.self.core 0 c.args.ask.now c.serve.new.ask c.serve.new.told
      c.serve.ensures.made c.serve.ensures.still c.serve.ensures.kept c.args.self.now.alone;
}

pub returns-then-is_busy-clause-goes : goal.returns-then-is_busy-clause-goes
returns-then-is_busy-clause-goes g c = record {
  stays = c.serve.ensures.desk 0;
  still_stands = λ base asks. c.serve.ensures.stands base asks;
  comes = any_comes c.serve.result c.args.self.now.board.core c.serve.new.self.core 0 c.args.ask.now c.serve.new.ask c.serve.new.told
      c.serve.ensures.made c.serve.ensures.still c.serve.ensures.kept;
}

pub returns-else-is_busy-clause-goes : goal.returns-else-is_busy-clause-goes
returns-else-is_busy-clause-goes g c = record {
  stays = c.serve.ensures.desk 0;
  still_stands = λ base asks. c.serve.ensures.stands base asks;
  comes = any_comes c.serve.result c.args.self.now.board.core c.serve.new.self.core 0 c.args.ask.now c.serve.new.ask c.serve.new.told
      c.serve.ensures.made c.serve.ensures.still c.serve.ensures.kept;
}

pub returns-in-Err-clause-goes : goal.returns-in-Err-clause-goes
returns-in-Err-clause-goes g c = record {
  stays = c.serve.ensures.desk 0;
  still_stands = λ base asks. c.serve.ensures.stands base asks;
  comes = any_comes c.serve.result c.args.self.now.board.core c.serve.new.self.core 0 c.args.ask.now c.serve.new.ask c.serve.new.told
      c.serve.ensures.made c.serve.ensures.still c.serve.ensures.kept;
}

pub returns-then-is_busy-clause-err : goal.returns-then-is_busy-clause-err
returns-then-is_busy-clause-err g c =
    let core = c.args.self.now.board.core in
    let acts = acts_of core in
    let busy = busy_is c.is_take-take.result c.is_busy.result c.args.ask.now c.serve.new.told c.is_take-take.ensures c.is_busy.ensures c.if-is_busy.true in
    failed_still (Asks (StandsWhole core c.args.self.now.board.pages.pages.items (g.D.Disks.count c.args.self.now.board.disks)) (desk_of core 0) acts c.args.ask.now)
    (desk_of core 0) acts (acts_of c.serve.new.self.core) c.args.ask.now c.not_allowed.result (refused_disk c.not_allowed.result c.not_allowed.ensures)
    (c.in-Ok.ensures.still busy).0.acts
    (λ base asks. absurd ((c.in-Ok.ensures.busy base asks.stood).0 busy (lone_agrees acts 0 c.args.ask.now c.args.self.now.alone)))

pub returns-else-is_busy-clause-ok : goal.returns-else-is_busy-clause-ok
returns-else-is_busy-clause-ok g c = c.in-Ok.ensures.ok
    (idle_by c.is_take-take.result c.is_busy.result c.args.ask.now c.serve.new.told c.is_take-take.ensures c.is_busy.ensures c.if-is_busy.false)

pub returns-else-is_busy-clause-spare : goal.returns-else-is_busy-clause-spare
returns-else-is_busy-clause-spare g c =
    let m = c.in-Ok.ensures.made
    (idle_by c.is_take-take.result c.is_busy.result c.args.ask.now c.serve.new.told c.is_take-take.ensures c.is_busy.ensures c.if-is_busy.false) in
    served_spare c.args.self.now.board.core c.serve.new.self.core 0 c.args.self.now.board.core.params c.args.ask.now c.serve.new.told m.0 m.1
