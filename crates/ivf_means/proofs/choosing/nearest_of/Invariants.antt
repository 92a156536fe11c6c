use Rattle.std.proofs.Common.{map}
use Rattle.bit_code.specs.Places.{unequal}
use Rattle.ivf_means.specs.Working.{IsLeastAt}
use Rattle.ivf_means.proofs.choosing.nearest_of.Given as goal

abbrev pub invariant-loop-list : goal.invariant-loop-list
invariant-loop-list l = IsLeastAt (map (λ c. unequal c l.value) l.centres) l.list l.best.0 l.best.1
