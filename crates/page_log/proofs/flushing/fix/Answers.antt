use Rattle.std.proofs.Common.{[]}
use Rattle.page_log.specs.Parts.{out}
use Rattle.page_log.proofs.Fronts.{read_none}
use Rattle.page_log.proofs.Coming.{comes_reading, comes_further}
use Rattle.page_log.proofs.flushing.fix.Goals as goal

pub returns-then-pending-clause-from : goal.returns-then-pending-clause-from
returns-then-pending-clause-from g c newer =
    let disk = g.D.Disks.disk c.args.disks.now in
    comes_reading (out c.args.pending.now newer) disk disk (read_none disk (g.met.D.Disks.only_now c.args.disks.now))

pub returns-clause-from : goal.returns-clause-from
returns-clause-from g c newer =
    comes_further (out c.args.pending.now newer) (out c.close_end.new.pending newer) (out c.write_body.new.pending newer)
    (g.D.Disks.disk c.args.disks.now) (g.D.Disks.disk c.close_end.new.disks) (g.D.Disks.disk c.write_body.new.disks) [] []
    (c.close_end.ensures.from newer) (c.write_body.ensures.from newer)
