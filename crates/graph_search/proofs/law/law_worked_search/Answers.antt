use Rattle.graph_search.proofs.WorkedSearch.{worked}
use Rattle.graph_search.proofs.law.law_worked_search.Goals as goal

pub returns : goal.returns
returns c = worked
