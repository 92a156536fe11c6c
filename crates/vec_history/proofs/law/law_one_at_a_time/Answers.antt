use Rattle.vec_history.proofs.Removing.{one_removed}
use Rattle.vec_history.proofs.OneAtATime.{one_hold, one_phase}
use Rattle.vec_history.proofs.law.law_one_at_a_time.Goals as goal

pub returns-clause-hold : goal.returns-clause-hold
returns-clause-hold c = one_hold c.args.acts.now

pub returns-clause-phase : goal.returns-clause-phase
returns-clause-phase c = one_phase c.args.acts.now

pub returns-clause-removed : goal.returns-clause-removed
returns-clause-removed c = one_removed c.args.acts.now
