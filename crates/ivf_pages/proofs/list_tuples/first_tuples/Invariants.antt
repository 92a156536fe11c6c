use Rattle.std.proofs.Common.{◌≡◌, ℕ, ◌<◌, length}
use Rattle.std.specs.Prelude.{slice_get}
use Rattle.ivf_pages.specs.Standing.{centre_in}
use Rattle.ivf_pages.proofs.list_tuples.first_tuples.Given as goal

-- the tuples of the lists so far
abbrev pub invariant-loop-list : goal.invariant-loop-list
invariant-loop-list l = (length l.tuples ≡ l.list) × ((k : ℕ) → k < l.list → slice_get l.tuples k ≡ centre_in l.params l.pages k)
