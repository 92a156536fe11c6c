use Rattle.graph_search.proofs.Ordered.{result_live, result_rises}
use Rattle.graph_search.proofs.WhereFrom.{result_met, result_exact}
use Rattle.graph_search.proofs.law.law_search.Goals as goal

pub returns-clause-live : goal.returns-clause-live
returns-clause-live c = result_live

pub returns-clause-rising : goal.returns-clause-rising
returns-clause-rising c = result_rises

pub returns-clause-met : goal.returns-clause-met
returns-clause-met c = result_met

pub returns-clause-exact : goal.returns-clause-exact
returns-clause-exact c = result_exact
