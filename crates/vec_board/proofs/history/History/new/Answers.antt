use Rattle.std.proofs.Common.{List, sym, ap, subst, arith}
use Rattle.vec_history.specs.declared.event.Act.{Act}
use Rattle.history_tables.specs.Telling.{Tells}
use Rattle.history_tables.specs.Rooms.{room_in_all}
use Rattle.vec_board.proofs.history.History.new.Goals as goal

pub invariant_of-result : goal.invariant_of-result
invariant_of-result c =
    let none = ap room_in_all c.new-3.ensures in
    let owed = c.new-2.ensures.owed in
    let len = c.new.ensures.len in
    let items = c.new.ensures.items in
    let held = c.new-2.ensures.room in
    record {
      counted = grind (arith, len, items);
      acts_room = omega (arith, none, owed, len);
      few = omega (arith, none, owed, len);
      holds_room = omega (arith, none, held);
      told = ∣ subst (λ (l : List Act). Tells c.new-2.result l) (sym items) c.new-2.ensures.tells ∣₁;
    }
