use Rattle.std.proofs.Common.{sym}
use Rattle.history_tables.proofs.OneRoom.{found_room, none_room}
use Rattle.history_tables.proofs.rooms.Rooms.room_of.Goals as goal

pub returns-in-Some : goal.returns-in-Some
returns-in-Some c = sym (found_room _ _ _ _ c.in-Some.ensures.some)

pub returns-in-None : goal.returns-in-None
returns-in-None c = sym (none_room _ _ c.in-None.ensures.none)
