use Rattle.vec_graph.proofs.Shaping.{on_blocks_of}
use Rattle.graph_law.proofs.Known.{known_live, live_behind}
use Rattle.graph_law.proofs.Facts.{was_doomed}
use Rattle.graph_law.proofs.law.law_behind_drops.Goals as goal

pub returns-clause-known : goal.returns-clause-known
returns-clause-known c = λ b desk layer at behind k. known_live c.args.base.now (on_blocks_of c.args.base.now c.requires.shaped) c.args.acts.now c.requires.legal b behind desk at layer k

pub returns-clause-live : goal.returns-clause-live
returns-clause-live c = λ b p layer at behind later met l. live_behind c.args.base.now (on_blocks_of c.args.base.now c.requires.shaped) c.args.acts.now c.requires.legal b behind p later met at layer l

pub returns-clause-doomed : goal.returns-clause-doomed
returns-clause-doomed c = λ b p at behind later met d. was_doomed c.args.base.now (on_blocks_of c.args.base.now c.requires.shaped) c.args.acts.now c.requires.legal b behind p later met at d
