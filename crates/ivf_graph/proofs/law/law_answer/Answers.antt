use Rattle.ivf_graph.specs.Answer.{found}
use Rattle.ivf_graph.proofs.AnswerOrder.{sorted_answer, answer_permutes}
use Rattle.ivf_graph.proofs.AllRows.{few_probed, answer_whole}
use Rattle.ivf_graph.proofs.law.law_answer.Goals as goal

pub returns-clause-rises : goal.returns-clause-rises
returns-clause-rises c = λ query probes. sorted_answer (found c.args.index.now query probes)

pub returns-clause-all : goal.returns-clause-all
returns-clause-all c = λ query probes. answer_permutes (found c.args.index.now query probes)

pub returns-clause-few : goal.returns-clause-few
returns-clause-few c = few_probed c.args.index.now

pub returns-clause-whole : goal.returns-clause-whole
returns-clause-whole c = answer_whole c.args.index.now
