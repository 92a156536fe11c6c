use Rattle.graph_search.proofs.SameValue.{same_value, with_room}
use Rattle.graph_search.proofs.Inserting.{joins_one, joins_equal, puts_found}
use Rattle.graph_search.proofs.law.law_insert.Goals as goal

pub returns-clause-joins : goal.returns-clause-joins
returns-clause-joins c params id bits word e deeds = joins_one params id bits word deeds e

pub returns-clause-equal : goal.returns-clause-equal
returns-clause-equal c params id bits word e deeds = joins_equal params id bits word deeds e

pub returns-clause-puts : goal.returns-clause-puts
returns-clause-puts c params id bits word place deeds = puts_found params id bits word deeds place

pub returns-clause-same_value : goal.returns-clause-same_value
returns-clause-same_value c = same_value

pub returns-clause-room : goal.returns-clause-room
returns-clause-room c = with_room
