use Rattle.vec_steps.proofs.Lasting.{holds_last, knows_last, known_by_look, put_asked_lasts, stands_last}
use Rattle.vec_steps.proofs.law.law_lasting.Goals as goal

pub returns-clause-holds : goal.returns-clause-holds
returns-clause-holds c = λ desk old new own gate x none h. holds_last x gate none h

pub returns-clause-knows : goal.returns-clause-knows
returns-clause-knows c = λ desk old new own base at layer x none k. knows_last x base at layer none k

pub returns-clause-by_look : goal.returns-clause-by_look
returns-clause-by_look c = λ desk old new own base at layer n x none h low high live. known_by_look x base at layer n none h low high live

pub returns-clause-put : goal.returns-clause-put
returns-clause-put c = λ desk old new own base level bits lists x none p. put_asked_lasts x base level bits lists none p

pub returns-clause-stands : goal.returns-clause-stands
returns-clause-stands c = λ desk old new own base at list_at level x legal on s. stands_last x base at list_at level legal on s
