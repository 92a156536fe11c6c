use Rattle.search_sets.proofs.Tables.{AreBlank}
use Rattle.search_sets.proofs.places.next_round.Given as goal

abbrev pub invariant-loop-slot : goal.invariant-loop-slot
invariant-loop-slot l = AreBlank l.slot-items l.slot-index
