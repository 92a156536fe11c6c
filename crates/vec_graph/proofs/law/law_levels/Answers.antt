use Rattle.vec_graph.proofs.Levels.{level_stays}
use Rattle.vec_graph.proofs.law.law_levels.Goals as goal

pub returns : goal.returns
returns c = λ n level at on has. level_stays c.args.base.now c.args.acts.now n at level c.requires on has
