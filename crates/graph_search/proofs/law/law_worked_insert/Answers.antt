use Rattle.graph_search.proofs.FirstInsert.{first_whole, first_made}
use Rattle.graph_search.proofs.law.law_worked_insert.Goals as goal

pub returns-clause-deeds : goal.returns-clause-deeds
returns-clause-deeds c = first_whole

pub returns-clause-events : goal.returns-clause-events
returns-clause-events c = first_made
