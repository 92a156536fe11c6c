use Rattle.std.proofs.Common.{sym, ap, ◌∙◌, arith}
use Rattle.history_tables.specs.Rooms.{room_in_all}
use Rattle.history_tables.proofs.OneRoom.{found_set, found_sum, found_within, none_set, push_sum}
use Rattle.history_tables.proofs.rooms.Rooms.set.Goals as goal

pub overflow_sub-self : goal.overflow_sub-self
overflow_sub-self c =
    let low = found_within _ _ _ _ c.in-Some.ensures.some in
    omega (arith, low, c.from.ensures, c.args.self.now.all_is)

pub invariant_of-self : goal.invariant_of-self
invariant_of-self c =
    let sum = found_sum c.args.self.now.rooms.items c.args.desk c.in-Some.k c.in-Some.before c.args.acts c.in-Some.ensures.some in
    let all = c.args.self.now.all_is in
    let was = c.from.ensures in
    let is = c.from-in-Some.ensures in
    record { all_is = omega (arith, sum, all, was, is) }

pub invariant_of-self-in-None : goal.invariant_of-self-in-None
invariant_of-self-in-None c =
    let sum = push_sum c.args.self.now.rooms.items (record { desk = c.args.desk; acts = c.args.acts }) in
    let all = c.args.self.now.all_is in
    let is = c.from-in-None.ensures in
    let items = ap room_in_all c.in_ok-push-in-None.ensures.items in
    record { all_is = omega (arith, sum, all, is, items) }

pub returns-in-Some-clause-ok : goal.returns-in-Some-clause-ok
returns-in-Some-clause-ok c = found_set c.args.self.now.rooms.items c.args.desk c.in-Some.k c.in-Some.before c.args.acts c.in-Some.ensures.some

pub returns-in_ok-push-in-None-clause-ok : goal.returns-in_ok-push-in-None-clause-ok
returns-in_ok-push-in-None-clause-ok c =
    c.in_ok-push-in-None.ensures.items ∙ sym (none_set c.args.self.now.rooms.items c.args.desk c.args.acts c.in-None.ensures.none)
