use Rattle.std.proofs.Common.{◌≡◌, drop}
use Rattle.std.specs.List.{list_any}
use Rattle.neighbour_pick.specs.Slots.{is_named}
use Rattle.neighbour_pick.proofs.slotting.is_named_by.Given as goal

abbrev pub invariant-loop-slot : goal.invariant-loop-slot
invariant-loop-slot l = list_any (λ slot. is_named l.at slot.at) (drop l.slot-index l.slots) ≡ list_any (λ slot. is_named l.at slot.at) l.slots
