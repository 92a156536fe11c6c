use Rattle.std.proofs.Common.{◌≡◌, replicate}
use Rattle.std.specs.Prelude.{false}
use Rattle.ivf_means.proofs.first.zeros.Given as goal

abbrev pub invariant-loop-list : goal.invariant-loop-list
invariant-loop-list l = l.centres.items ≡ replicate l.list (replicate l.bits false)
