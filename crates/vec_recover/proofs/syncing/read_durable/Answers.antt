use Rattle.vec_recover.proofs.Durable.{all_go_on, told_before, told_of_all}
use Rattle.vec_recover.proofs.syncing.read_durable.Goals as goal

pub returns-in-Ok-clause-recovers : goal.returns-in-Ok-clause-recovers
returns-in-Ok-clause-recovers g c told =
    told_before (g.D.Disks.disk c.args.disks.now) (g.D.Disks.disk c.sync_all.new.disks) (g.D.Disks.disk c.read_index.new.disks)
    c.sync_all.ensures.only.kept c.read_index.ensures.only.kept c.in-Ok.ensures.durable c.read_index.result (c.read_index.ensures.recovers told)

pub returns-in-Ok-clause-crash : goal.returns-in-Ok-clause-crash
returns-in-Ok-clause-crash g c told =
    told_of_all (g.D.Disks.disk c.args.disks.now) (g.D.Disks.disk c.sync_all.new.disks) (g.D.Disks.disk c.read_index.new.disks)
    c.sync_all.ensures.only.kept c.read_index.ensures.only.kept c.in-Ok.ensures.durable c.read_index.result (c.read_index.ensures.recovers told)

pub returns-in-Ok-clause-standing : goal.returns-in-Ok-clause-standing
returns-in-Ok-clause-standing g c told =
    all_go_on (g.D.Disks.disk c.args.disks.now) (g.D.Disks.disk c.sync_all.new.disks) (g.D.Disks.disk c.read_index.new.disks)
    c.sync_all.ensures.only.kept c.read_index.ensures.only.kept c.in-Ok.ensures.durable c.read_index.result c.read_index.ensures.goes
