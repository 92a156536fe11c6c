use Rattle.vec_graph.proofs.Entries.{by_event}
use Rattle.vec_graph.proofs.law.law_entries.Goals as goal

pub returns : goal.returns
returns c = λ a may. by_event c.args.base.now c.args.acts.now a.desk a.event may
