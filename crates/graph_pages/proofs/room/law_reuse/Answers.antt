use Rattle.graph_pages.proofs.ReusedPlace.{taken, given, none_given}
use Rattle.graph_pages.proofs.room.law_reuse.Goals as goal

pub returns-clause-taken : goal.returns-clause-taken
returns-clause-taken c = λ pages g block level spot all stands is. taken pages g block level all stands spot is

pub returns-clause-given : goal.returns-clause-given
returns-clause-given c = λ pages g block level spot all stands is. given pages g block level all stands spot is

pub returns-clause-none : goal.returns-clause-none
returns-clause-none c = λ pages g block level at all stands is same. none_given pages g block level all stands is at same
