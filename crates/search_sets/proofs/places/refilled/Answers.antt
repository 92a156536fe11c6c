use Rattle.std.proofs.Common.{◌-◌, ◌<◌, length, arith}
use Rattle.search_sets.proofs.Tables.{new_round, none_wide, put_slot_more}
use Rattle.search_sets.proofs.places.refilled.Goals as goal

pub loop-slot-init : goal.loop-slot-init
loop-slot-init c =
    let masked : c.args.count - 1 < length c.in_ok-wide.wide.items = omega (arith, c.requires, c.in_ok-wide.ensures.len) in
    record {
      table = new_round (c.args.count - 1) 1 c.in_ok-wide.wide.items masked c.in_ok-wide.ensures.blank;
      same = none_wide c.args.round c.args.slots.now c.in_ok-wide.wide.items c.in_ok-wide.ensures.blank;
    }

pub loop-slot-preserved : goal.loop-slot-preserved
loop-slot-preserved c = record {
  table = c.in_ok-put_again.ensures.table;
  same = put_slot_more c.args.round c.args.slots.now c.loop-slot.slot-index c.slot-item.result _ _ c.loop-slot-test.true c.slot-item.is
      c.in_ok-put_again.ensures.set c.loop-slot.invariant.same;
}
