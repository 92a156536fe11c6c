use Rattle.ivf_graph.proofs.Later.{later}
use Rattle.ivf_graph.proofs.law.law_later.Goals as goal

pub returns : goal.returns
returns c = later c.args.base.now c.args.acts.now c.requires
