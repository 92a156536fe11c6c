use Rattle.std.proofs.Common.{◌≡◌, subst, sym, refl, length, get_or, arith}
use Rattle.ivf_means.specs.Working.{IsGreatestAt}
use Rattle.ivf_means.proofs.FirstPlaces.{greatest_first, greatest_step, greatest_is}
use Rattle.ivf_means.proofs.choosing.greatest_of.Goals as goal

pub returns-clause-place : goal.returns-clause-place
returns-clause-place c =
    let all : c.loop-place.place ≡ length c.args.numbers.now = omega arith in
    sym (greatest_is c.args.numbers.now c.loop-place.best.0 c.loop-place.best.1
    (subst (λ n. IsGreatestAt c.args.numbers.now n c.loop-place.best.0 c.loop-place.best.1) all c.loop-place.invariant))

pub loop-place-init : goal.loop-place-init
loop-place-init c = greatest_first c.args.numbers.now _ refl

pub loop-place-preserved : goal.loop-place-preserved
loop-place-preserved c =
    greatest_step c.args.numbers.now c.loop-place.place (get_or c.args.numbers.now c.loop-place.place 0) c.loop-place.best c.greater-best.result c.loop-place.invariant refl
    c.greater-best.ensures.kept c.greater-best.ensures.taken
