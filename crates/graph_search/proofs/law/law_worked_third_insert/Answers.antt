use Rattle.graph_search.proofs.WorkedThird.{lists_of_third, links_of_third}
use Rattle.graph_search.proofs.law.law_worked_third_insert.Goals as goal

pub returns-clause-lists : goal.returns-clause-lists
returns-clause-lists c = lists_of_third

pub returns-clause-links : goal.returns-clause-links
returns-clause-links c = links_of_third
