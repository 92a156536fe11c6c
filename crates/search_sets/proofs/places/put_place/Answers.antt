use Rattle.std.proofs.Common.{List, ap, sym, subst, ◌∙◌}
use Rattle.search_sets.specs.declared.slots.Slot.{Slot}
use Rattle.search_sets.specs.Slots.{IsTable, set_of}
use Rattle.search_sets.proofs.Tables.{met_false, met_same, new_true, written_table, written_set, pushed_table, pushed_set}
use Rattle.search_sets.proofs.places.put_place.Goals as goal

pub returns-then-is_used-clause-new : goal.returns-then-is_used-clause-new
returns-then-is_used-clause-new c = met_false c.args.mask c.args.round c.args.at c.as_slice-items.result.now c.args.slots.now.items c.as_slice-items.ensures.value c.seek-k.result c.requires c.seek-k.ensures (c.is_used.ensures.yes c.if-is_used.true)

pub returns-then-is_used-clause-set : goal.returns-then-is_used-clause-set
returns-then-is_used-clause-set c = met_same c.args.mask c.args.round c.args.at c.as_slice-items.result.now c.args.slots.now.items c.as_slice-items.ensures.value c.seek-k.result c.requires c.seek-k.ensures (c.is_used.ensures.yes c.if-is_used.true)

pub returns-then-k-count-clause-table : goal.returns-then-k-count-clause-table
returns-then-k-count-clause-table c = written_table c.args.mask c.args.round c.args.at c.as_slice-items.result.now c.args.slots.now.items c.as_slice-items.ensures.value c.seek-k.result c.requires c.seek-k.ensures (c.is_used.ensures.no c.if-is_used.false) c.if-k-count.true

pub returns-then-k-count-clause-new : goal.returns-then-k-count-clause-new
returns-then-k-count-clause-new c = new_true c.args.mask c.args.round c.args.at c.as_slice-items.result.now c.args.slots.now.items c.as_slice-items.ensures.value c.seek-k.result c.requires c.seek-k.ensures (c.is_used.ensures.no c.if-is_used.false)

pub returns-then-k-count-clause-set : goal.returns-then-k-count-clause-set
returns-then-k-count-clause-set c = written_set c.args.mask c.args.round c.args.at c.as_slice-items.result.now c.args.slots.now.items c.as_slice-items.ensures.value c.seek-k.result c.requires c.seek-k.ensures (c.is_used.ensures.no c.if-is_used.false) c.if-k-count.true

pub returns-clause-table : goal.returns-clause-table
returns-clause-table c = subst (λ (l : List Slot). IsTable c.args.mask c.args.round l) (sym c.in_ok-push.ensures.items) (pushed_table c.args.mask c.args.round c.args.at c.as_slice-items.result.now c.args.slots.now.items c.as_slice-items.ensures.value c.seek-k.result c.requires c.seek-k.ensures (c.is_used.ensures.no c.if-is_used.false) c.if-k-count.false)

pub returns-clause-new : goal.returns-clause-new
returns-clause-new c = new_true c.args.mask c.args.round c.args.at c.as_slice-items.result.now c.args.slots.now.items c.as_slice-items.ensures.value c.seek-k.result c.requires c.seek-k.ensures (c.is_used.ensures.no c.if-is_used.false)

pub returns-clause-set : goal.returns-clause-set
returns-clause-set c = ap (set_of c.args.round) c.in_ok-push.ensures.items ∙ pushed_set c.args.mask c.args.round c.args.at c.as_slice-items.result.now c.args.slots.now.items c.as_slice-items.ensures.value c.seek-k.result c.requires c.seek-k.ensures (c.is_used.ensures.no c.if-is_used.false) c.if-k-count.false
