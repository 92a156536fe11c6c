use Rattle.std.proofs.Common.{◌≡◌, ◌+◌, drop}
use Rattle.page_log.specs.Batches.{room_of}
use Rattle.page_log.proofs.batches.room_left.Given as goal

abbrev pub invariant-loop-placed : goal.invariant-loop-placed
invariant-loop-placed l = l.left + room_of l.events ≡ l.initial.left + room_of (drop l.placed-index l.events)
