use Rattle.vec_steps.proofs.Following.{does_then}
use Rattle.vec_steps.proofs.law.law_calls.Goals as goal

pub returns : goal.returns
returns g c = λ d old mid new first second x y. does_then c.requires.still_stands x y
