use Rattle.std.proofs.Common.{◌+◌, ◌-◌, ◌*◌, ◌<◌, ◌≤◌, ◌^◌, take, drop}
use Rattle.page_log.specs.Steps.{OnlyReads}
use Rattle.page_log.proofs.PieceRuns.{IsMoving}
use Rattle.page_log.proofs.events.read_batch_events.Given as goal

abbrev pub invariant-loop-progress : goal.invariant-loop-progress
invariant-loop-progress g l = record {
  done : l.progress.done ≤ l.len;
  some : 0 < l.progress.most;
  few : l.progress.most < 2 ^ 64;
  moving : IsMoving g.D.Disks.told (take l.len (drop l.at ((g.D.Disks.disk l.fn.disks).seen l.area))) l.at l.progress.done l.initial.events.items l.events.items;
  only : OnlyReads (g.D.Disks.disk l.fn.disks) (g.D.Disks.disk l.disks);
  later : g.D.Disks.count l.fn.disks ≤ g.D.Disks.count l.disks;
}

abbrev pub decreases-loop-progress : goal.decreases-loop-progress
decreases-loop-progress g l = (l.len - l.progress.done) * 2 ^ 65 + (2 ^ 65 - l.progress.most)
