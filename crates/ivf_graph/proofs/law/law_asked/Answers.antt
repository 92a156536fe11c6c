use Rattle.ivf_graph.proofs.Asked.{asked_of, allowed_by}
use Rattle.ivf_graph.proofs.law.law_asked.Goals as goal

pub returns-clause-asked : goal.returns-clause-asked
returns-clause-asked c = λ desk e own may. asked_of c.args.base.now c.args.acts.now desk e own may

pub returns-clause-allowed : goal.returns-clause-allowed
returns-clause-allowed c = λ desk e apart asks granted. allowed_by c.args.base.now c.args.acts.now desk apart e asks granted
