use Rattle.std.proofs.Common.{◌≡◌, ◌<◌, ◌≤◌, ℕ, get_or, [], min}
use Rattle.bit_code.specs.Places.{unequal}
use Rattle.ivf_means.specs.Centres.{values_of}
use Rattle.ivf_means.proofs.first.narrow.Given as goal

abbrev pub invariant-loop-k : goal.invariant-loop-k
invariant-loop-k l = record {
  done : (j : ℕ) → j < l.k → get_or l.gaps j 0 ≡ min (get_or l.fn.gaps j 0) (unequal l.centre (get_or (values_of l.rows) j []));
  left : (j : ℕ) → l.k ≤ j → get_or l.gaps j 0 ≡ get_or l.fn.gaps j 0;
}
