use Rattle.page_log.specs.Aside.{IsShut}
use Rattle.page_log.proofs.Keeping.{keeps_both}
use Rattle.page_log.proofs.epoch_writing.write_behind.Goals as goal

pub returns-clause-keeps : goal.returns-clause-keeps
returns-clause-keeps g c =
    let area = c.args.area in
    let old = g.D.Disks.disk c.args.disks.now in
    let title = g.D.Disks.disk c.write_title.new.disks in
    let images = g.D.Disks.disk c.write_images.new.disks in
    keeps_both IsShut area old images (g.D.Disks.disk c.finish.new.disks)
    (keeps_both IsShut area old title images c.write_title.ensures.keeps c.write_images.ensures.keeps) c.finish.ensures.keeps
