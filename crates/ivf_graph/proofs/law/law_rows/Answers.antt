use Rattle.ivf_graph.proofs.SameRows.{by_event}
use Rattle.ivf_graph.proofs.SameCentres.{centres_by_event}
use Rattle.ivf_graph.proofs.law.law_rows.Goals as goal

pub returns-clause-same_rows : goal.returns-clause-same_rows
returns-clause-same_rows c = λ e. by_event e c.args.index.now

pub returns-clause-same_centres : goal.returns-clause-same_centres
returns-clause-same_centres c = λ e. centres_by_event e c.args.index.now
