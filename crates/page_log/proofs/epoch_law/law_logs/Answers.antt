use Rattle.page_log.proofs.BothAreas.{logs_same, log_comes, settled_stands, pages_written}
use Rattle.page_log.proofs.Changing.{logs_further}
use Rattle.page_log.proofs.epoch_law.law_logs.Goals as goal

pub returns-clause-same : goal.returns-clause-same
returns-clause-same g c disks logs = logs_same logs (g.D.Disks.disk disks) (g.met.D.Disks.only_now disks)

pub returns-clause-joined : goal.returns-clause-joined
returns-clause-joined g c first second third old mid new some more a b =
    logs_further old mid new (g.D.Disks.disk first) (g.D.Disks.disk second) (g.D.Disks.disk third) some more a b

pub returns-clause-log : goal.returns-clause-log
returns-clause-log g c old new log after events comes = log_comes log after (g.D.Disks.disk old) (g.D.Disks.disk new) events comes

pub returns-clause-pages : goal.returns-clause-pages
returns-clause-pages g c old new logs others = pages_written logs (g.D.Disks.disk old) (g.D.Disks.disk new) others

pub returns-clause-settled : goal.returns-clause-settled
returns-clause-settled g c old new log after held comes settles stands =
    settled_stands log after (g.D.Disks.disk old) (g.D.Disks.disk new) held comes settles stands
