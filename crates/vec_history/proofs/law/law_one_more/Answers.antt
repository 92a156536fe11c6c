use Rattle.vec_history.proofs.OneMore.{hold_on, hold_back, hold_new, hold_ends, phase_on, phase_back, phase_new, not_begun, vacuum_ends, vacuum_cancelled, barrier_on, barrier_back, barrier_new, barrier_taken, removed_on, removed_back, removed_new, removed_ends, removed_not_new, lasting_more}
use Rattle.vec_history.proofs.law.law_one_more.Goals as goal

pub returns-clause-hold : goal.returns-clause-hold
returns-clause-hold c = λ desk gate hold k other.
    (hold_on c.args.acts.now c.args.act.now desk gate hold k other, hold_back c.args.acts.now c.args.act.now desk gate hold k other)

pub returns-clause-taken : goal.returns-clause-taken
returns-clause-taken c = hold_new c.args.acts.now c.args.act.now

pub returns-clause-given : goal.returns-clause-given
returns-clause-given c = hold_ends c.args.acts.now c.args.act.now

pub returns-clause-phase : goal.returns-clause-phase
returns-clause-phase c = λ desk stage k other.
    (phase_on c.args.acts.now c.args.act.now desk stage k other, phase_back c.args.acts.now c.args.act.now desk stage k (not_begun c.args.acts.now c.args.act.now other desk stage))

pub returns-clause-begun : goal.returns-clause-begun
returns-clause-begun c = phase_new c.args.acts.now c.args.act.now

pub returns-clause-ended : goal.returns-clause-ended
returns-clause-ended c = vacuum_ends c.args.acts.now c.args.act.now

pub returns-clause-cancelled : goal.returns-clause-cancelled
returns-clause-cancelled c = vacuum_cancelled c.args.acts.now c.args.act.now

pub returns-clause-barrier : goal.returns-clause-barrier
returns-clause-barrier c = λ desk gate k other.
    (barrier_on c.args.acts.now c.args.act.now desk gate k, barrier_back c.args.acts.now c.args.act.now desk gate k other)

pub returns-clause-passed : goal.returns-clause-passed
returns-clause-passed c = λ desk gate k same.
    (barrier_new c.args.acts.now c.args.act.now desk gate k same, barrier_taken c.args.acts.now c.args.act.now desk gate k same)

pub returns-clause-removed : goal.returns-clause-removed
returns-clause-removed c = λ desk position not_vacuum not_drop other.
    (removed_on c.args.acts.now c.args.act.now desk position not_vacuum not_drop other, removed_back c.args.acts.now c.args.act.now desk position not_vacuum other)

pub returns-clause-removal : goal.returns-clause-removal
returns-clause-removal c = removed_new c.args.acts.now c.args.act.now

pub returns-clause-dropped : goal.returns-clause-dropped
returns-clause-dropped c = removed_ends c.args.acts.now c.args.act.now

pub returns-clause-restarted : goal.returns-clause-restarted
returns-clause-restarted c = removed_not_new c.args.acts.now c.args.act.now

pub returns-clause-lasting : goal.returns-clause-lasting
returns-clause-lasting c = lasting_more c.args.acts.now c.args.act.now
