use Rattle.vec_steps.proofs.Turned.{not_settled}
use Rattle.vec_steps.proofs.gate_desk.GateDeskSteps.settle.Goals as goal

pub returns-clause-err : goal.returns-clause-err
returns-clause-err c = not_settled c.args.self.now
