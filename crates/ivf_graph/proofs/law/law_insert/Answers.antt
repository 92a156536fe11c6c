use Rattle.ivf_graph.proofs.OncePlaced.{placed_once}
use Rattle.ivf_graph.proofs.law.law_insert.Goals as goal

pub returns : goal.returns
returns c = placed_once
