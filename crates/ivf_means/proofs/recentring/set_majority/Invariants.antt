use Rattle.std.proofs.Common.{◌≡◌, ◌<◌, ◌*◌, ℕ, get_or, length}
use Rattle.std.specs.Prelude.{false, nat_lt}
use Rattle.ivf_means.proofs.recentring.set_majority.Given as goal

abbrev pub invariant-loop-place : goal.invariant-loop-place
invariant-loop-place l = record {
  long : length l.centre ≡ length l.fn.centre;
  done : (j : ℕ) → j < l.place → get_or l.centre j false ≡ nat_lt l.size (2 * get_or l.ones j 0);
}
