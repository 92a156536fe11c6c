use Rattle.std.proofs.Common.{◌≡◌, length}
use Rattle.meddled_desk.specs.Meddling.{Meddles}
use Rattle.meddled_desk.proofs.playing.play_group.Given as goal

-- what was played so far
abbrev pub invariant-loop-desk : goal.invariant-loop-desk
invariant-loop-desk g l =
    let count = g.D.Disks.count in
    (goal.iterator-loop-desk g).can_next l.desk-iterator × (goal.iterator-loop-desk g).is_finite l.desk-iterator
    × Meddles l.judge.base.now (count l.fn.board.disks) l.fn.board.core l.board.core l.fn.board.pages.pages.items l.board.pages.pages.items
    × (l.board.disks ≡ l.fn.board.disks) × (length l.told.bits ≡ length l.fn.told.bits)
