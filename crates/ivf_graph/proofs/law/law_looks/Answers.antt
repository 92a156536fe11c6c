use Rattle.ivf_graph.proofs.ReadsOfOne.{all_centres}
use Rattle.ivf_graph.proofs.LooksFind.{found_as_seen}
use Rattle.ivf_graph.proofs.law.law_looks.Goals as goal

pub returns-clause-centres : goal.returns-clause-centres
returns-clause-centres c = all_centres c.args.index.now

pub returns-clause-rows : goal.returns-clause-rows
returns-clause-rows c = λ query block rows. found_as_seen query block 1 rows
