use Rattle.std.proofs.Common.{[]}
use Rattle.page_log.proofs.Coming.{between_now}
use Rattle.page_log.proofs.LogSteps.{event_going, taken_going, holds_all, past_is}
use Rattle.page_log.proofs.Opened.{read_going}
use Rattle.page_log.proofs.going_law.law_going.Goals as goal

pub returns-clause-images : goal.returns-clause-images
returns-clause-images g c disks base log settled pending going image is = between_now base log (g.D.Disks.disk disks) settled pending going image is

pub returns-clause-settled : goal.returns-clause-settled
returns-clause-settled g c disks base log settled going image is =
    holds_all base settled (image log.area) (between_now base log (g.D.Disks.disk disks) settled [] going image is)

pub returns-clause-event : goal.returns-clause-event
returns-clause-event g c disks base log event settled pending typed writable fits going =
    event_going base log event (g.D.Disks.disk disks) settled pending typed writable fits going

pub returns-clause-batch : goal.returns-clause-batch
returns-clause-batch g c disks base log settled pending going = taken_going base log (g.D.Disks.disk disks) settled pending going

pub returns-clause-past : goal.returns-clause-past
returns-clause-past g c log pending after is same = past_is log pending after is same

pub returns-clause-opened : goal.returns-clause-opened
returns-clause-opened g c disks base area placed end used durable base_is log within fits =
    read_going (g.D.Disks.disk disks) area base placed end used durable base_is log within fits
