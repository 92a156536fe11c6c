use Rattle.vec_graph.proofs.Own.{knows_kept, put_known}
use Rattle.vec_graph.proofs.Vacuuming.{phase_stays}
use Rattle.vec_graph.proofs.law.law_own.Goals as goal

pub returns-clause-knows : goal.returns-clause-knows
returns-clause-knows c = λ n desk layer at met none k. knows_kept c.args.base.now c.args.acts.now n desk at layer met none k

pub returns-clause-put : goal.returns-clause-put
returns-clause-put c = λ desk new may. put_known c.args.base.now c.args.acts.now desk new may

pub returns-clause-phase : goal.returns-clause-phase
returns-clause-phase c = λ legal n desk stage met none was. phase_stays c.args.base.now desk stage c.args.acts.now legal n met none was
