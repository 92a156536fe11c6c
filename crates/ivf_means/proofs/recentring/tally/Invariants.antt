use Rattle.std.proofs.Common.{◌≡◌, ◌<◌, ◌+◌, ℕ, get_or, length, drop}
use Rattle.ivf_means.specs.Centres.{values_of, ones_at}
use Rattle.ivf_means.specs.Working.{assigned_to}
use Rattle.ivf_means.proofs.recentring.tally.Given as goal

abbrev pub invariant-loop-k : goal.invariant-loop-k
invariant-loop-k l =
    let left = assigned_to l.list (drop l.k l.assigned) (values_of (drop l.k l.rows)) in
    let all = assigned_to l.list l.assigned (values_of l.rows) in
    record {
      room : length l.ones ≡ length l.fn.ones;
      size : l.size + length left ≡ length all;
      ones : (j : ℕ) → j < length l.fn.ones → get_or l.ones j 0 + ones_at j left ≡ ones_at j all;
    }
