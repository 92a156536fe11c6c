use Rattle.std.proofs.Common.{◌≡◌, ℕ, ◌<◌, ◌++◌, true, drop}
use Rattle.ivf_pages.specs.Standing.{centre_in, has_aim}
use Rattle.ivf_pages.specs.Walking.{AreMarked, AreChainsApart, chains_of}
use Rattle.ivf_pages.proofs.walking.follow_all.Given as goal

-- the marks of the chains so far, each of which has its list's aim; and their blocks, where all chains are apart
abbrev pub invariant-loop-list : goal.invariant-loop-list
invariant-loop-list l =
    AreMarked l.params l.pages l.list l.marks × ((k : ℕ) → k < l.list → has_aim l.pages (centre_in l.params l.pages k) ≡ true)
    × (AreChainsApart (chains_of l.pages l.tuples) → l.chains ++ chains_of l.pages (drop l.list l.tuples) ≡ chains_of l.pages l.tuples)
