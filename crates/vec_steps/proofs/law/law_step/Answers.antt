use Rattle.vec_steps.proofs.Following.{step_does, fault_does}
use Rattle.vec_steps.proofs.law.law_step.Goals as goal

pub returns-clause-made : goal.returns-clause-made
returns-clause-made g c = λ old new ask left told s. step_does s

pub returns-clause-failed : goal.returns-clause-failed
returns-clause-failed g c = λ old new ask fault s. fault_does s
