use Rattle.page_log.specs.Aside.{IsShut}
use Rattle.page_log.proofs.Fronts.{read_one}
use Rattle.page_log.proofs.Keeping.{keeps_read, keeps_both}
use Rattle.page_log.proofs.epoch_writing.finish.Goals as goal

pub returns-clause-keeps : goal.returns-clause-keeps
returns-clause-keeps g c =
    let area = c.args.area in
    let mid = g.D.Disks.disk c.write_on.new.disks in
    let new = g.D.Disks.disk c.sync.new.self in
    keeps_both IsShut area (g.D.Disks.disk c.args.disks.now) mid new c.write_on.ensures.keeps
    (keeps_read IsShut area mid new (read_one mid new (g.met.D.Disks.only_now c.write_on.new.disks) c.sync.ensures.kept c.sync.ensures.time))
