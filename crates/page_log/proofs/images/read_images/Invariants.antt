use Rattle.std.proofs.Common.{◌≡◌, ◌+◌, ◌*◌, ◌≤◌, length, None}
use Rattle.page_log.specs.Steps.{OnlyReads}
use Rattle.page_log.specs.declared.limits.TheConstants.{HEAD, IMAGE}
use Rattle.page_log.proofs.ImageRuns.{IsTaking, IsRising}
use Rattle.page_log.proofs.images.read_images.Given as goal

abbrev pub invariant-loop-k : goal.invariant-loop-k
invariant-loop-k g l = record {
  end : l.run.end ≡ HEAD + IMAGE * l.k;
  count : length l.run.images.items ≡ l.k;
  fine : l.run.bad ≡ None;
  size : g.D.Disks.told → l.size ≡ length ((g.D.Disks.disk l.fn.disks).seen l.area);
  taking : g.D.Disks.told → IsTaking ((g.D.Disks.disk l.fn.disks).seen l.area) l.head.blocks l.head.images l.k l.run;
  rising : IsRising l.head.blocks l.run;
  only : OnlyReads (g.D.Disks.disk l.fn.disks) (g.D.Disks.disk l.disks);
  later : g.D.Disks.count l.fn.disks ≤ g.D.Disks.count l.disks;
}
