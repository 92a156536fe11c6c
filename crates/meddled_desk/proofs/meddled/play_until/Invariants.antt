use Rattle.std.proofs.Common.{◌≡◌, length}
use Rattle.meddled_desk.specs.Meddling.{Meddles}
use Rattle.meddled_desk.proofs.meddled.play_until.Given as goal

-- what was played so far
abbrev pub invariant-loop : goal.invariant-loop
invariant-loop g l = record {
  meddles : Meddles l.judge.base.now (g.D.Disks.count l.fn.board.disks) l.fn.board.core l.board.core l.fn.board.pages.pages.items l.board.pages.pages.items;
  disks : l.board.disks ≡ l.fn.board.disks;
  bits : length l.told.bits ≡ length l.fn.told.bits;
}
