use Rattle.vec_graph.proofs.Lasting.{stays_live, stays_doomed}
use Rattle.vec_graph.proofs.Vacuuming.{its_drops, its_marks, was_doomed}
use Rattle.vec_graph.proofs.Ending.{may_end}
use Rattle.vec_graph.proofs.Own.{no_more_live}
use Rattle.vec_graph.proofs.law.law_vacuum.Goals as goal

pub returns-clause-live : goal.returns-clause-live
returns-clause-live c = λ n desk layer stage at met on was none mine l.
    stays_live c.args.base.now c.args.acts.now c.requires n met on at layer (its_drops c.args.base.now desk stage c.args.acts.now c.requires n none was mine) l

pub returns-clause-no_more_doomed : goal.returns-clause-no_more_doomed
returns-clause-no_more_doomed c = λ n desk stage at met on was none mine d. was_doomed c.args.base.now desk stage c.args.acts.now c.requires n none was met on mine at d

pub returns-clause-doomed : goal.returns-clause-doomed
returns-clause-doomed c = λ n desk stage at met on was none mine d.
    stays_doomed c.args.base.now c.args.acts.now c.requires n met on at (its_marks c.args.base.now desk stage c.args.acts.now c.requires n none was at mine) d

pub returns-clause-no_more_live : goal.returns-clause-no_more_live
returns-clause-no_more_live c = λ desk at a on may other alone l. no_more_live c.args.base.now c.args.acts.now c.requires on a may desk other alone at l

pub returns-clause-ends : goal.returns-clause-ends
returns-clause-ends c = λ desk stage p. may_end c.args.base.now c.args.acts.now desk stage p

pub returns-clause-ends_once : goal.returns-clause-ends_once
returns-clause-ends_once c = λ desk stage v cancel. cancel.not_done v
