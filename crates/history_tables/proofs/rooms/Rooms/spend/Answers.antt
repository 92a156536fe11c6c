use Rattle.std.proofs.Common.{sym, ap, ◌∙◌, arith, slice_set}
use Rattle.history_tables.specs.Rooms.{room_in_all}
use Rattle.history_tables.proofs.OneRoom.{found_spent, found_less, found_within, none_spent}
use Rattle.history_tables.proofs.rooms.Rooms.spend.Goals as goal

pub returns-in_default : goal.returns-in_default
returns-in_default c = sym (none_spent _ _ (c.in_default.ensures.none))

pub overflow_sub-self : goal.overflow_sub-self
overflow_sub-self c =
    let low = found_within _ _ _ _ c.in-Some.ensures.some in
    let all = c.args.self.now.all_is in
    let one = c.min.ensures in
    let is = c.from.ensures in
    omega (arith, low, all, one, is)

pub invariant_of-self : goal.invariant_of-self
invariant_of-self c =
    let sum = found_less c.args.self.now.rooms.items c.args.desk c.in-Some.k c.in-Some.acts c.in-Some.ensures.some in
    let all = c.args.self.now.all_is in
    let one = c.min.ensures in
    let is = c.from.ensures in
    let now = ap (λ n. room_in_all (slice_set c.args.self.now.rooms.items c.in-Some.k (record { desk = c.args.desk; acts = n }))) c.saturating_sub.ensures in
    record { all_is = omega (arith, sum, all, one, is, now) }

pub returns : goal.returns
returns c =
    ap (λ n. slice_set c.args.self.now.rooms.items c.in-Some.k (record { desk = c.args.desk; acts = n })) c.saturating_sub.ensures
    ∙ found_spent c.args.self.now.rooms.items c.args.desk c.in-Some.k c.in-Some.acts c.in-Some.ensures.some
