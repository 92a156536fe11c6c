use Rattle.neighbour_pick.proofs.Selecting.{picks_long, picks_there, picks_once}
use Rattle.neighbour_pick.proofs.law.law_selection.Goals as goal

pub returns-clause-many : goal.returns-clause-many
returns-clause-many c = picks_long

pub returns-clause-there : goal.returns-clause-there
returns-clause-there c = picks_there

pub returns-clause-once : goal.returns-clause-once
returns-clause-once c = picks_once
