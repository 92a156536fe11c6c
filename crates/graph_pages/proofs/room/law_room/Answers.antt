use Rattle.graph_pages.proofs.PageRoom.{room_is, next_is}
use Rattle.graph_pages.proofs.room.law_room.Goals as goal

pub returns-clause-room : goal.returns-clause-room
returns-clause-room c = λ pages g block page few all stands low there. room_is pages g few all stands block page low there

pub returns-clause-next : goal.returns-clause-next
returns-clause-next c = λ pages g block page few all stands low there. next_is pages g few all stands block page low there
