use Rattle.ivf_graph.proofs.Growing.{grown_later}
use Rattle.ivf_graph.proofs.law.law_chains.Goals as goal

pub returns : goal.returns
returns c = grown_later c.args.base.now c.args.acts.now
