use Rattle.vec_steps.proofs.Legality.{goes_on}
use Rattle.vec_steps.proofs.granting.law_granted.Goals as goal

pub returns : goal.returns
returns c = λ base acts d ask told ending step e of shaped legal may agrees is says made.
    goes_on base acts d of.has shaped legal ask told ending step e may agrees is says made
