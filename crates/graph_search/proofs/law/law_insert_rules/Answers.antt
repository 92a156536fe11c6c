use Rattle.graph_search.proofs.Rules.{tried, enters_where_above, high_hints_none, hint_moves, hint_stays}
use Rattle.graph_search.proofs.law.law_insert_rules.Goals as goal

pub returns-clause-tries : goal.returns-clause-tries
returns-clause-tries c = tried

pub returns-clause-enters : goal.returns-clause-enters
returns-clause-enters c params id bits word place deeds = enters_where_above params id bits word deeds place

pub returns-clause-no_hint : goal.returns-clause-no_hint
returns-clause-no_hint c params id bits word place deeds = high_hints_none params id bits word deeds place

pub returns-clause-hint_moves : goal.returns-clause-hint_moves
returns-clause-hint_moves c = hint_moves

pub returns-clause-hint_stays : goal.returns-clause-hint_stays
returns-clause-hint_stays c = hint_stays
