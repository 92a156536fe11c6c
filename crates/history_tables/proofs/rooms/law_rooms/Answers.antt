use Rattle.history_tables.proofs.OneRoom.{set_own, set_other, set_all, spend_own, spend_other, spend_all}
use Rattle.history_tables.proofs.rooms.law_rooms.Goals as goal

pub returns-clause-set : goal.returns-clause-set
returns-clause-set c = set_own

pub returns-clause-others : goal.returns-clause-others
returns-clause-others c = set_other

pub returns-clause-all : goal.returns-clause-all
returns-clause-all c = set_all

pub returns-clause-spent : goal.returns-clause-spent
returns-clause-spent c = spend_own

pub returns-clause-spent_others : goal.returns-clause-spent_others
returns-clause-spent_others c = spend_other

pub returns-clause-spent_all : goal.returns-clause-spent_all
returns-clause-spent_all c = spend_all
