use Rattle.page_file.proofs.OtherLogs.{logs_stay}
use Rattle.page_file.proofs.writing.write_pages.Goals as goal

pub returns-in-Ok-clause-logs : goal.returns-in-Ok-clause-logs
returns-in-Ok-clause-logs g c logs =
    logs_stay c.args.which.now logs (g.D.Disks.disk c.args.disks.now) (g.D.Disks.disk c.write_synced.new.disks) c.write_synced.ensures.written c.write_synced.ensures.moments

pub returns-in-Err-clause-logs : goal.returns-in-Err-clause-logs
returns-in-Err-clause-logs g c logs =
    logs_stay c.args.which.now logs (g.D.Disks.disk c.args.disks.now) (g.D.Disks.disk c.write_synced.new.disks) c.write_synced.ensures.written c.write_synced.ensures.moments
