use Rattle.std.proofs.Common.{◌≡◌, ◌<◌, ◌≤◌, ◌+◌, ℕ, get_or}
use Rattle.std.specs.Prelude.{false}
use Rattle.bit_code.specs.Places.{digit_of}
use Rattle.ivf_means.proofs.recentring.add.Given as goal

abbrev pub invariant-loop-place : goal.invariant-loop-place
invariant-loop-place l = record {
  done : (j : ℕ) → j < l.place → get_or l.ones j 0 ≡ get_or l.fn.ones j 0 + digit_of (get_or l.value j false);
  left : (j : ℕ) → l.place ≤ j → get_or l.ones j 0 ≡ get_or l.fn.ones j 0;
}
