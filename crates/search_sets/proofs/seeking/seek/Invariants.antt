use Rattle.std.proofs.Common.{length, ◌-◌, ◌≤◌}
use Rattle.search_sets.specs.Slots.{AreOthers, first_slot}
use Rattle.search_sets.proofs.seeking.seek.Given as goal

abbrev pub invariant-loop-k : goal.invariant-loop-k
invariant-loop-k l = record {
  from : first_slot l.mask l.at ≤ l.k;
  within : l.k ≤ length l.slots;
  others : AreOthers l.round l.at l.slots (first_slot l.mask l.at) l.k;
}

abbrev pub decreases-loop-k : goal.decreases-loop-k
decreases-loop-k l = length l.slots - l.k
