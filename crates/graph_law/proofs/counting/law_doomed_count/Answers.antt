use Rattle.graph_law.proofs.DoomedCount.{counted}
use Rattle.graph_law.proofs.counting.law_doomed_count.Goals as goal

pub returns : goal.returns
returns c = λ a may. counted c.args.base.now c.args.acts.now a.desk c.requires a.event may
