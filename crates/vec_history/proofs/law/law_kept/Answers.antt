use Rattle.vec_history.proofs.OneMore.{hold_kept, phase_kept}
use Rattle.vec_history.proofs.law.law_kept.Goals as goal

pub returns-clause-hold : goal.returns-clause-hold
returns-clause-hold c = λ n desk k gate hold none s. hold_kept c.args.acts.now n desk gate hold k none s

pub returns-clause-phase : goal.returns-clause-phase
returns-clause-phase c = λ n desk k stage none s. phase_kept c.args.acts.now n desk stage k none s
