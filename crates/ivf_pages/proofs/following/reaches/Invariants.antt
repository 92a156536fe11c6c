use Rattle.std.proofs.Common.{◌≡◌, ◌-◌, length, Some}
use Rattle.ivf_pages.specs.Walking.{reaches}
use Rattle.ivf_pages.proofs.following.reaches.Given as goal

-- whether the block is reached is told by what is left
abbrev pub invariant-loop-i : goal.invariant-loop-i
invariant-loop-i l = reaches l.pages (length l.pages) l.block (Some l.first) ≡ reaches l.pages (length l.pages - l.i) l.block l.to
