use Rattle.step_gates.proofs.Holding.{held_before, hold_lasts}
use Rattle.step_gates.proofs.law.law_holds.Goals as goal

pub returns-clause-lasts : goal.returns-clause-lasts
returns-clause-lasts c = λ desk old new own gate hold k x none h. hold_lasts x gate none hold k h

pub returns-clause-before : goal.returns-clause-before
returns-clause-before c = λ desk old new own gate x none h. held_before x gate none h
