use Rattle.std.proofs.Common.{◌-◌, length}
use Rattle.ivf_pages.proofs.Walks.{IsFollowing}
use Rattle.ivf_pages.proofs.walking.follow.Given as goal

-- the chain so far, and the marks that it left
abbrev pub invariant-loop-i : goal.invariant-loop-i
invariant-loop-i l = IsFollowing l.pages l.list l.first (length l.pages - l.i) l.initial.marks l.marks l.from l.to l.chain
