use Rattle.vec_steps.proofs.AsDeeds.{did_between}
use Rattle.vec_steps.proofs.law.law_deeds.Goals as goal

pub returns : goal.returns
returns g c = λ old new course deeds graph same on are x. did_between graph deeds same on are x
