use Rattle.std.proofs.Common.{◌≤◌, drop}
use Rattle.page_file.proofs.Going.{IsGoing}
use Rattle.page_file.proofs.writing.write_each.Given as goal

abbrev pub invariant-loop-pair : goal.invariant-loop-pair
invariant-loop-pair g l = record {
  going : IsGoing g.D.Disks.told l.pages l.which (drop l.pair-index l.which) (g.D.Disks.disk l.initial.disks) (g.D.Disks.disk l.disks);
  later : g.D.Disks.count l.initial.disks ≤ g.D.Disks.count l.disks;
}
