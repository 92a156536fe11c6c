use Rattle.neighbour_pick.proofs.Choosing.{slot_inside, lowest_empty}
use Rattle.neighbour_pick.proofs.law.law_slots.Goals as goal

pub returns-clause-empty : goal.returns-clause-empty
returns-clause-empty c = lowest_empty

pub returns-clause-there : goal.returns-clause-there
returns-clause-there c = slot_inside
