use Rattle.std.proofs.Common.{◌≡◌, ◌+◌, ◌≤◌, ◌-◌, length, None}
use Rattle.page_log.specs.Steps.{OnlyReads}
use Rattle.index_sizes.specs.declared.limits.TheConstants.{LOG_ROOM}
use Rattle.page_log.proofs.Runs.{IsRun}
use Rattle.page_log.proofs.log_reading.read_batches.Given as goal

abbrev pub invariant-loop-run : goal.invariant-loop-run
invariant-loop-run g l = record {
  used : l.run.used ≤ LOG_ROOM;
  end : (l.at ≤ l.run.end) × (l.run.end ≤ l.at + l.run.used);
  fine : l.run.bad ≡ None;
  size : g.D.Disks.told → l.size ≡ length ((g.D.Disks.disk l.fn.disks).seen l.area);
  run : g.D.Disks.told → IsRun ((g.D.Disks.disk l.fn.disks).seen l.area) l.at l.run;
  only : OnlyReads (g.D.Disks.disk l.fn.disks) (g.D.Disks.disk l.disks);
  later : g.D.Disks.count l.fn.disks ≤ g.D.Disks.count l.disks;
}

abbrev pub decreases-loop-run : goal.decreases-loop-run
decreases-loop-run g l = l.size - l.run.end
