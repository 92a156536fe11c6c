use Rattle.graph_search.proofs.Stepping.{first_same, first_stands, next_same, next_stands, same_stands, turn_after, turned_after}
use Rattle.graph_search.proofs.law.law_batches_by_holding.Goals as goal

pub returns-clause-first : goal.returns-clause-first
returns-clause-first c = first_same

pub returns-clause-first_stands : goal.returns-clause-first_stands
returns-clause-first_stands c = first_stands

pub returns-clause-next : goal.returns-clause-next
returns-clause-next c = next_same

pub returns-clause-next_stands : goal.returns-clause-next_stands
returns-clause-next_stands c = next_stands

pub returns-clause-same : goal.returns-clause-same
returns-clause-same c = same_stands

pub returns-clause-turn : goal.returns-clause-turn
returns-clause-turn c = turn_after

pub returns-clause-turned : goal.returns-clause-turned
returns-clause-turned c = turned_after
