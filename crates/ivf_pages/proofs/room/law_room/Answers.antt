use Rattle.ivf_pages.proofs.RoomTold.{rows_told, rows_behind, taken_told, room_told}
use Rattle.ivf_pages.proofs.room.law_room.Goals as goal

pub returns-clause-rows : goal.returns-clause-rows
returns-clause-rows c = λ p pages g block page s past there. rows_told p pages g s block page past there

pub returns-clause-behind : goal.returns-clause-behind
returns-clause-behind c = λ p pages g block rows s is. rows_behind p pages g s block rows is

pub returns-clause-taken : goal.returns-clause-taken
returns-clause-taken c = λ p pages g block page rows all s there is. taken_told p pages g s block all page rows there is

pub returns-clause-room : goal.returns-clause-room
returns-clause-room c = λ p pages g block places page rows all s there is. room_told p pages g s block all page rows there is places
