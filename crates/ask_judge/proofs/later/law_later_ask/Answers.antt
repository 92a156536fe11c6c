use Rattle.ask_judge.proofs.LaterAsks.{ask_later}
use Rattle.ask_judge.proofs.later.law_later_ask.Goals as goal

pub returns : goal.returns
returns c = λ base old new desk ask x shaped legal may. ask_later base old new desk x shaped legal ask may
