use Rattle.ivf_graph.proofs.Places.{stands_later}
use Rattle.ivf_graph.proofs.law.law_stands.Goals as goal

pub returns : goal.returns
returns c = stands_later c.args.base.now c.args.acts.now c.requires.legal c.requires.own
