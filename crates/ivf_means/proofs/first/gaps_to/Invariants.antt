use Rattle.std.proofs.Common.{◌≡◌, ◌++◌, map, drop}
use Rattle.bit_code.specs.Places.{unequal}
use Rattle.ivf_means.specs.Centres.{values_of}
use Rattle.ivf_means.proofs.first.gaps_to.Given as goal

abbrev pub invariant-loop-row : goal.invariant-loop-row
invariant-loop-row l = l.gaps.items ++ map (unequal l.centre) (values_of (drop l.row-index l.rows)) ≡ map (unequal l.centre) (values_of l.rows)
