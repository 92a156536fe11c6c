use Rattle.std.proofs.Common.{ap, arith}
use Rattle.history_tables.specs.Rooms.{room_in_all}
use Rattle.vec_board.proofs.Fitting.{ready_by, spent_less}
use Rattle.vec_board.proofs.Recorded.{log_by}
use Rattle.vec_board.proofs.board_core.Core.make_room.Goals as goal

pub returns-then-has_room-clause-ready : goal.returns-then-has_room-clause-ready
returns-then-has_room-clause-ready c = ready_by c.args.self.now.history c.args.desk c.args.event.now (c.has_room.ensures.0 c.if-has_room.true)

pub returns-then-has_room-clause-log : goal.returns-then-has_room-clause-log
returns-then-has_room-clause-log c = log_by c.args.self.now c.args.desk c.args.event.now (c.has_room.ensures.0 c.if-has_room.true)

pub returns-clause-ready : goal.returns-clause-ready
returns-clause-ready c = c.in_ok-reserve_one.ensures.ready c.args.desk c.args.event.now

pub returns-clause-log : goal.returns-clause-log
returns-clause-log c = λ lasts.
    let less = spent_less c.reserve_one.new.self.rooms.rooms.items c.args.desk in
    let same = ap room_in_all c.in_ok-reserve_one.ensures.same.rooms in
    let had = c.in_ok-reserve_event.ensures.spare in
    omega (arith, less, same, had)
