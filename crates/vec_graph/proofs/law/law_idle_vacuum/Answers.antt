use Rattle.vec_graph.proofs.IdleVacuum.{vacuum_is_legal}
use Rattle.vec_graph.proofs.law.law_idle_vacuum.Goals as goal

pub returns : goal.returns
returns c = λ desk. vacuum_is_legal c.args.base.now desk c.requires.no_nodes c.requires.no_entry
