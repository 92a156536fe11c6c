use Rattle.graph_search.proofs.WorkedSearch.{through}
use Rattle.graph_search.proofs.law.law_worked_search_through.Goals as goal

pub returns : goal.returns
returns c = through
