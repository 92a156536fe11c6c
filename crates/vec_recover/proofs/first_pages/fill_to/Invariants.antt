use Rattle.std.proofs.Common.{◌≡◌, ◌≤◌, length}
use Rattle.vec_outside.specs.declared.disks.Area.TheVariants.{Pages}
use Rattle.page_log.specs.Steps.{OnlyReads}
use Rattle.vec_recover.specs.Parts.{IsFilled}
use Rattle.vec_recover.proofs.first_pages.fill_to.Given as goal

-- the pages up to here are read
abbrev pub invariant-loop-block : goal.invariant-loop-block
invariant-loop-block g l = record {
  count : length l.pages.items ≡ l.block;
  low : length l.fn.pages.items ≤ l.block;
  filled : g.D.Disks.told → IsFilled ((g.D.Disks.disk l.fn.disks).seen Pages) l.block l.fn.pages.items l.pages.items;
  only : OnlyReads (g.D.Disks.disk l.fn.disks) (g.D.Disks.disk l.disks);
  later : g.D.Disks.count l.fn.disks ≤ g.D.Disks.count l.disks;
}
