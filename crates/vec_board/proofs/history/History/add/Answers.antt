use Rattle.std.proofs.Common.{◌+◌, ◌<◌, ◌^◌, List, sym, ap, subst, arith}
use Rattle.std.proofs.lemmas.List.Sums.{count_by-le-length}
use Rattle.vec_history.specs.declared.event.Act.{Act}
use Rattle.vec_history.specs.Settling.{is_lasting, lasting_events}
use Rattle.history_tables.specs.Telling.{Tells}
use Rattle.std.proofs.Math.Logic.{∥∥₁_map}
use Rattle.history_tables.specs.Rooms.{room_in_all, spent}
use Rattle.history_tables.specs.Telling.{HasRoom, ends_owed}
use Rattle.vec_board.proofs.Fitting.{owed_by, spent_less, takes_or}
use Rattle.vec_board.proofs.history.History.add.Goals as goal

pub note-requires : goal.note-requires
note-requires c = λ takes. let room = c.requires.ready.holds takes in omega (arith, room)

pub push-requires : goal.push-requires
push-requires c =
    let owed = owed_by c.args.event (ends_owed c.args.self.now.tables) (ends_owed c.note.new.self) c.note.ensures.owed (λ one. c.note.ensures.ended (c.requires.ends one)) in
    let room = c.requires.ready.acts in
    omega (arith, owed, room)

pub invariant_of-self : goal.invariant_of-self
invariant_of-self c =
    let was = c.args.self.now.counted in
    let owed = owed_by c.args.event (ends_owed c.args.self.now.tables) (ends_owed c.note.new.self) c.note.ensures.owed (λ one. c.note.ensures.ended (c.requires.ends one)) in
    let room = c.requires.ready.acts in
    let few = c.requires.ready.few in
    let len = c.push.ensures.len in
    let cap = c.push.ensures.capacity in
    let rooms = c.spend.ensures in
    let all = ap room_in_all rooms in
    let spent_room = spent_less c.args.self.now.rooms.rooms.items c.args.desk in
    let was_room = c.args.self.now.holds_room in
    let most = count_by-le-length (λ (a : Act). is_lasting a.event) c.args.self.now.acts.items in
    let short : lasting_events c.args.self.now.acts.items + 1 < 2 ^ 64 = omega (arith, most, was, few) in
    let held : HasRoom (room_in_all (spent c.args.desk c.args.self.now.rooms.rooms.items)) c.note.new.self = takes_or c.args.event
    (λ takes. c.note.ensures.taken _ (c.requires.ready.holds takes))
    (λ not. c.note.ensures.kept _ not (omega (arith, was_room, spent_room))) in
    record {
      counted = grind (arith, was, len, c.push.ensures.items);
      acts_room = omega (arith, owed, room, len, cap, all);
      few = omega (arith, owed, few, len, all);
      holds_room = subst (λ n. HasRoom n c.note.new.self) (sym all) held;
      told = ∥∥₁_map c.args.self.now.told (λ tells.
          subst (λ (l : List Act). Tells c.note.new.self l) (sym c.push.ensures.items) (c.note.ensures.tells _ tells short));
    }
