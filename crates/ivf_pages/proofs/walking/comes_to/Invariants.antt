use Rattle.std.proofs.Common.{◌≡◌, ◌-◌, length, Some}
use Rattle.ivf_pages.specs.Walking.{comes_to}
use Rattle.ivf_pages.proofs.walking.comes_to.Given as goal

-- whether the block is reached is told by what is left
abbrev pub invariant-loop-i : goal.invariant-loop-i
invariant-loop-i l = comes_to l.links (length l.links) l.block (Some l.first) ≡ comes_to l.links (length l.links - l.i) l.block l.to
