use Rattle.ivf_graph.proofs.ReadsOfOne.{answer_of_one, some_answer}
use Rattle.ivf_graph.proofs.law.law_reads.Goals as goal

pub returns-clause-one : goal.returns-clause-one
returns-clause-one c = λ reads probes query answer low from. answer_of_one c.args.index.now reads query probes answer c.requires low from

pub returns-clause-some : goal.returns-clause-some
returns-clause-some c = λ probes query low. some_answer c.args.index.now query probes c.requires low
