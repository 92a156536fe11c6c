use Rattle.std.proofs.Common.{length}
use Rattle.page_log.specs.Aside.{IsShut}
use Rattle.page_log.proofs.Keeping.{keeps_torn, write_moments}
use Rattle.page_log.proofs.Shutting.{shut_torn}
use Rattle.page_log.proofs.epoch_writing.write_part.Goals as goal

pub returns-clause-keeps : goal.returns-clause-keeps
returns-clause-keeps g c =
    let area = c.args.area in
    let at = c.args.at in
    let n = length c.args.bytes.now in
    let old = g.D.Disks.disk c.args.disks.now in
    let new = g.D.Disks.disk c.write_at.new.self in
    keeps_torn IsShut area at n old new c.write_at.ensures.written
    (write_moments area at n old new (g.met.D.Disks.only_now c.args.disks.now) c.write_at.ensures.written c.write_at.ensures.time)
    (λ was bytes left is torn. shut_torn at n was bytes c.requires.apart is torn)
