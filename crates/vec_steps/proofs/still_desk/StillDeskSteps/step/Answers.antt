use Rattle.std.proofs.Common.{Result, Ok, Err, IfErr}
use Rattle.vec_steps.specs.declared.fault.StepFault.{StepFault}
use Rattle.vec_steps.proofs.Stillness.{refused}
use Rattle.vec_steps.proofs.still_desk.StillDeskSteps.step.Goals as goal

pub returns-clause-err : goal.returns-clause-err
returns-clause-err c =
    if_err c.answer.result (λ f. refused c.args.self.now c.args.ask.now _ f c.requires) c.answer.ensures.err
  where
    if_err : {A : Type 0} {P Q : StepFault → Type 0} (r : Result A StepFault) → ((f : StepFault) → P f → Q f) → IfErr r P → IfErr r Q
    if_err (Ok v) on p = tt
    if_err (Err f) on p = on f p
