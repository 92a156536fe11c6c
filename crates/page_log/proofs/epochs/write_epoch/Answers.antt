use Rattle.page_log.specs.Opening.{area_of}
use Rattle.page_log.proofs.BothAreas.{is_log, epoch_written}
use Rattle.page_log.proofs.epochs.write_epoch.Goals as goal

pub returns-in-Ok-clause-from : goal.returns-in-Ok-clause-from
returns-in-Ok-clause-from g c log apart =
    epoch_written log (area_of c.args.epoch) (g.D.Disks.disk c.args.disks.now) (g.D.Disks.disk c.write_shut.new.disks) (is_log c.args.epoch) apart c.write_shut.ensures.keeps

pub returns-in-Err-clause-from : goal.returns-in-Err-clause-from
returns-in-Err-clause-from g c log apart =
    epoch_written log (area_of c.args.epoch) (g.D.Disks.disk c.args.disks.now) (g.D.Disks.disk c.write_shut.new.disks) (is_log c.args.epoch) apart c.write_shut.ensures.keeps
