use Rattle.graph_search.proofs.WorkedSearch.{worked_one}
use Rattle.graph_search.proofs.law.law_worked_search_of_one.Goals as goal

pub returns : goal.returns
returns c = worked_one
