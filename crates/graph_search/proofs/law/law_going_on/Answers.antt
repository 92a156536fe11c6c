use Rattle.graph_search.proofs.Onward.{batch_taken, turned, named_begins, named_taken, named_turned}
use Rattle.graph_search.proofs.Holding.{over, begins, batch_goes_on, search_goes_on}
use Rattle.graph_search.proofs.law.law_going_on.Goals as goal

pub returns-clause-begins : goal.returns-clause-begins
returns-clause-begins c = begins

pub returns-clause-over : goal.returns-clause-over
returns-clause-over c = λ s turns taken earlier h ef most holds. over s turns taken earlier h holds ef most

pub returns-clause-search : goal.returns-clause-search
returns-clause-search c = search_goes_on

pub returns-clause-batch : goal.returns-clause-batch
returns-clause-batch c = batch_goes_on

pub returns-clause-taken : goal.returns-clause-taken
returns-clause-taken c = λ s turns taken earlier h ef holds. batch_taken s turns taken earlier h holds ef

pub returns-clause-turn : goal.returns-clause-turn
returns-clause-turn c = λ s b turns t taken earlier h holds are turn. turned s b turns t taken earlier are turn h holds

pub returns-clause-named_begins : goal.returns-clause-named_begins
returns-clause-named_begins c = named_begins

pub returns-clause-named_taken : goal.returns-clause-named_taken
returns-clause-named_taken c = named_taken

pub returns-clause-named_turn : goal.returns-clause-named_turn
returns-clause-named_turn c = λ s b turns t taken earlier are turn. named_turned s b turns t taken earlier are turn
