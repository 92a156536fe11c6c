use Rattle.std.proofs.Common.{◌∙◌, ap, length, arith}
use Rattle.std.proofs.lemmas.Result.{on_ok_weaker}
use Rattle.page_bytes.proofs.Whole.{length-spelling}
use Rattle.page_log.specs.Aside.{IsShut}
use Rattle.page_log.proofs.Keeping.{keeps_both}
use Rattle.page_log.proofs.epoch_writing.write_image.Goals as goal

pub returns-clause-keeps : goal.returns-clause-keeps
returns-clause-keeps g c =
    keeps_both IsShut c.args.area (g.D.Disks.disk c.args.disks.now) (g.D.Disks.disk c.write_on.new.disks) (g.D.Disks.disk c.write_on-2.new.disks)
    c.write_on.ensures.keeps c.write_on-2.ensures.keeps

pub returns-clause-reach : goal.returns-clause-reach
returns-clause-reach g c told =
    let size = ap length c.bytes.ensures.spelling ∙ length-spelling c.args.page.now c.bytes.ensures.page.room in
    on_ok_weaker c.write_on-2.result (λ reach. omega (arith, reach, size)) (c.write_on-2.ensures.reach told)
