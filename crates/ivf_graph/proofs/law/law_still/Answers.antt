use Rattle.ivf_graph.proofs.ReadsAtOne.{answer_at_one, some_at_one}
use Rattle.ivf_graph.proofs.law.law_still.Goals as goal

pub returns-clause-one : goal.returns-clause-one
returns-clause-one c = answer_at_one c.args.base.now c.args.acts.now c.requires.legal c.requires.own

pub returns-clause-some : goal.returns-clause-some
returns-clause-some c = some_at_one c.args.base.now c.args.acts.now c.requires.legal c.requires.own
