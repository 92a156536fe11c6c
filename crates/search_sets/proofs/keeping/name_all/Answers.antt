use Rattle.std.proofs.Common.{◌∙◌}
use Rattle.search_sets.proofs.Mentioned.{fresh_next, names_next}
use Rattle.search_sets.proofs.keeping.name_all.Goals as goal

pub loop-slot-preserved : goal.loop-slot-preserved
loop-slot-preserved c = record {
  fresh = fresh_next c.args.slots.now c.loop-slot.slot-index c.slot-item.result c.loop-slot-test.true c.slot-item.is c.loop-slot.named c.name_one.new.named
      c.in_ok-name_one.ensures.named c.loop-slot.fresh c.name_one.new.fresh c.in_ok-name_one.ensures.fresh ∙ c.loop-slot.invariant.fresh;
  named = λ q. names_next c.args.slots.now c.loop-slot.slot-index c.slot-item.result c.loop-slot-test.true c.slot-item.is c.loop-slot.named c.name_one.new.named
      c.in_ok-name_one.ensures.named q ∙ c.loop-slot.invariant.named q;
}
