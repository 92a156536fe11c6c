use Rattle.std.proofs.Common.{List, sym, subst, arith}
use Rattle.vec_history.specs.declared.event.Act.{Act}
use Rattle.history_tables.specs.Telling.{Tells}
use Rattle.std.proofs.Math.Logic.{∥∥₁_map}
use Rattle.vec_board.proofs.history.History.reserve_more.Goals as goal

pub invariant_of-self-2 : goal.invariant_of-self-2
invariant_of-self-2 c =
    let was = c.args.self.now.counted in
    let room = c.args.self.now.acts_room in
    let few = c.args.self.now.few in
    let owed = c.reserve-2.ensures.owed in
    let len = c.reserve.ensures.len in
    let cap = c.reserve.ensures.capacity in
    let held = c.reserve-2.ensures.kept _ c.args.self.now.holds_room in
    record {
      counted = grind (arith, was, len, c.reserve.ensures.items);
      acts_room = omega (arith, room, owed, len, cap);
      few = omega (arith, few, owed, len);
      holds_room = held;
      told = ∥∥₁_map c.args.self.now.told (λ tells.
          subst (λ (l : List Act). Tells c.reserve-2.new.self l) (sym c.reserve.ensures.items) (c.reserve-2.ensures.same _ tells));
    }
