use Rattle.std.proofs.Common.{refl}
use Rattle.page_log.proofs.Coming.{comes_further}
use Rattle.page_log.proofs.LogSteps.{comes_same, comes_with_event}
use Rattle.page_log.proofs.going_law.law_coming.Goals as goal

pub returns-clause-same : goal.returns-clause-same
returns-clause-same g c disks log = comes_same log log (g.D.Disks.disk disks) (g.met.D.Disks.only_now disks) refl

pub returns-clause-event : goal.returns-clause-event
returns-clause-event g c disks log event typed writable fits = comes_with_event log event (g.D.Disks.disk disks) (g.met.D.Disks.only_now disks) typed writable fits

pub returns-clause-joined : goal.returns-clause-joined
returns-clause-joined g c first second third old mid new added more a b =
    comes_further old mid new (g.D.Disks.disk first) (g.D.Disks.disk second) (g.D.Disks.disk third) added more a b
