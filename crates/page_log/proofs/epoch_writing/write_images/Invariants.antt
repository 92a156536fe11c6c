use Rattle.std.proofs.Common.{◌≤◌}
use Rattle.page_log.proofs.ImageWrites.{IsWriting}
use Rattle.page_log.proofs.epoch_writing.write_images.Given as goal

abbrev pub invariant-loop-pair : goal.invariant-loop-pair
invariant-loop-pair g l = record {
  writing : IsWriting g.D.Disks.told l.area l.pages l.which l.pair-index l.at (g.D.Disks.disk l.fn.disks) (g.D.Disks.disk l.disks);
  later : g.D.Disks.count l.fn.disks ≤ g.D.Disks.count l.disks;
}
