use Rattle.vec_steps.specs.Still.{still_legal}
use Rattle.vec_steps.proofs.gate_desk.GateDesk.over.Goals as goal

pub returns-clause-stands : goal.returns-clause-stands
returns-clause-stands c = λ base s. (s, still_legal c.args.still base s)
