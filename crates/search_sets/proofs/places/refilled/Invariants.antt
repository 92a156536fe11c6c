use Rattle.std.proofs.Common.{◌≡◌, ◌-◌, take}
use Rattle.search_sets.specs.Slots.{IsTable, set_of}
use Rattle.search_sets.proofs.places.refilled.Given as goal

abbrev pub invariant-loop-slot : goal.invariant-loop-slot
invariant-loop-slot l = record {
  table : IsTable (l.count - 1) 1 l.wide.items;
  same : set_of 1 l.wide.items ≡ set_of l.round (take l.slot-index l.slots);
}
