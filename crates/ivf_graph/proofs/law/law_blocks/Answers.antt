use Rattle.std.proofs.Common.{[]}
use Rattle.ivf_graph.proofs.OwnBlocks.{own_after}
use Rattle.ivf_graph.proofs.law.law_blocks.Goals as goal

pub returns : goal.returns
returns c = own_after c.args.base.now [] c.args.acts.now c.requires.legal c.requires.own
