use Rattle.std.proofs.Common.{◌≡◌, ◌<◌, List, ap, subst, ◌∙◌, OnOk, max, arith}
use Rattle.history_tables.specs.declared.rooms.Room.{Room}
use Rattle.history_tables.specs.Rooms.{room_of, room_in_all}
use Rattle.vec_board.proofs.RoomSet.{own_set, others_kept, all_low}
use Rattle.vec_board.proofs.history.History.reserve.Goals as goal

pub returns-clause-others : goal.returns-clause-others
returns-clause-others c = λ other differs.
    others_kept _ _ c.args.desk c.args.count c.set.result c.set.ensures.ok c.set.ensures.err other differs
    ∙ ap (λ (rooms : List Room). room_of rooms other) c.reserve_more.ensures.same.rooms

pub returns-clause-own : goal.returns-clause-own
returns-clause-own c =
    let same = ap (λ (rooms : List Room). room_of rooms c.args.desk) c.reserve_more.ensures.same.rooms in
    let less : room_of c.reserve_more.new.self.rooms.rooms.items c.args.desk < c.args.count = omega (arith, same) in
    let own = own_set c.reserve_more.new.self.rooms.rooms.items c.set.new.self.rooms.items c.args.desk c.args.count c.set.result c.set.ensures.ok less in
    subst (λ n. OnOk c.set.result (room_of c.set.new.self.rooms.items c.args.desk ≡ max c.args.count n)) same own

pub returns-clause-all : goal.returns-clause-all
returns-clause-all c =
    let low = all_low c.reserve_more.new.self.rooms.rooms.items c.set.new.self.rooms.items c.args.desk c.args.count c.set.result c.set.ensures.ok c.set.ensures.err in
    let same = ap room_in_all c.reserve_more.ensures.same.rooms in
    omega (arith, low, same)

pub invariant_of-self : goal.invariant_of-self
invariant_of-self c =
    let low = all_low c.reserve_more.new.self.rooms.rooms.items c.set.new.self.rooms.items c.args.desk c.args.count c.set.result c.set.ensures.ok c.set.ensures.err in
    let room = c.in_ok-reserve_more.ensures.acts in
    let few = c.in_ok-reserve_more.ensures.few in
    let held = c.in_ok-reserve_more.ensures.holds in
    record {
      counted = c.reserve_more.new.self.counted;
      acts_room = omega (arith, low, room);
      few = omega (arith, low, few);
      holds_room = omega (arith, low, held);
      told = c.reserve_more.new.self.told;
    }
