use Rattle.graph_law.proofs.Remains.{stands_on}
use Rattle.graph_law.proofs.counting.law_place_kept.Goals as goal

pub returns : goal.returns
returns c = stands_on c.args.base.now c.args.acts.now
