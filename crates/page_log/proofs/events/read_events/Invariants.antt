use Rattle.std.proofs.Common.{length}
use Rattle.page_log.proofs.EventRuns.{IsReading}
use Rattle.page_log.proofs.events.read_events.Given as goal

abbrev pub invariant-loop-left : goal.invariant-loop-left
invariant-loop-left l = IsReading l.at l.bytes l.left l.initial.events.items l.events.items

abbrev pub decreases-loop-left : goal.decreases-loop-left
decreases-loop-left l = length l.left
