use Rattle.vec_graph.proofs.Layers.{members}
use Rattle.vec_graph.proofs.law.law_layers.Goals as goal

pub returns : goal.returns
returns c = members
