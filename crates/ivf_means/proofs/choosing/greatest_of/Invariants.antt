use Rattle.ivf_means.specs.Working.{IsGreatestAt}
use Rattle.ivf_means.proofs.choosing.greatest_of.Given as goal

abbrev pub invariant-loop-place : goal.invariant-loop-place
invariant-loop-place l = IsGreatestAt l.numbers l.place l.best.0 l.best.1
