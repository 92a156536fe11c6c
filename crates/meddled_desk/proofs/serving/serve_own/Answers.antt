use Rattle.vec_steps.specs.declared.fault.StepFault.TheVariants as fault
use Rattle.vec_steps.specs.Desks.{Asks}
use Rattle.vec_board.specs.Standing.{acts_of}
use Rattle.vec_board.specs.Looking.{desk_of}
use Rattle.vec_board.specs.Boards.{StandsWhole}
use Rattle.vec_board.proofs.SteppedBy.{failed_still}
use Rattle.vec_board.proofs.WholeSets.{refused_disk}
use Rattle.vec_board.proofs.ServedLaws.{served_spare}
use Rattle.vec_board.proofs.LoneLaws.{idle_by, busy_is}
use Rattle.meddled_desk.specs.Meddling.{IsAgreed}
use Rattle.meddled_desk.proofs.Others.{any_later}
use Rattle.meddled_desk.proofs.serving.serve_own.Goals as goal

pub returns-then-is_busy-clause-err : goal.returns-then-is_busy-clause-err
returns-then-is_busy-clause-err g c =
    let core = c.args.board.now.core in
    let acts = acts_of core in
    let busy = busy_is c.is_take-take.result c.is_busy.result c.args.ask.now c.serve.new.told c.is_take-take.ensures c.is_busy.ensures c.if-is_busy.true in
    failed_still (IsAgreed (Asks (StandsWhole core c.args.board.now.pages.pages.items (g.D.Disks.count c.args.board.now.disks)) (desk_of core 0) acts c.args.ask.now) acts c.args.ask.now)
    (desk_of core 0) acts (acts_of c.serve.new.self.core) c.args.ask.now (fault.LogFull 0 0) (refused_disk (fault.LogFull 0 0) tt)
    (c.in-Ok.ensures.still busy).0.acts
    (λ base agreed. absurd ((c.in-Ok.ensures.busy base agreed.is.stood).0 busy agreed.agrees))

pub returns-else-is_busy-clause-ok : goal.returns-else-is_busy-clause-ok
returns-else-is_busy-clause-ok g c = c.in-Ok.ensures.ok
    (idle_by c.is_take-take.result c.is_busy.result c.args.ask.now c.serve.new.told c.is_take-take.ensures c.is_busy.ensures c.if-is_busy.false)

pub returns-else-is_busy-clause-spare : goal.returns-else-is_busy-clause-spare
returns-else-is_busy-clause-spare g c =
    let m = c.in-Ok.ensures.made
    (idle_by c.is_take-take.result c.is_busy.result c.args.ask.now c.serve.new.told c.is_take-take.ensures c.is_busy.ensures c.if-is_busy.false) in
    served_spare c.args.board.now.core c.serve.new.self.core 0 c.args.board.now.core.params c.args.ask.now c.serve.new.told m.0 m.1

pub returns-else-is_busy-clause-desk : goal.returns-else-is_busy-clause-desk
returns-else-is_busy-clause-desk g c = c.serve.ensures.desk 0

pub returns-else-is_busy-clause-comes : goal.returns-else-is_busy-clause-comes
returns-else-is_busy-clause-comes g c = any_later c.serve.result c.args.board.now.core c.serve.new.self.core 0 c.args.ask.now c.serve.new.ask c.serve.new.told
    c.serve.ensures.made c.serve.ensures.still c.serve.ensures.kept
