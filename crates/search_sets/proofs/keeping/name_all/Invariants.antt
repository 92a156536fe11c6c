use Rattle.std.proofs.Common.{◌≡◌, ◌++◌, ◌||◌, drop}
use Rattle.std.specs.FinSet as set
use Rattle.vec_names.specs.declared.tid.Tid.{Tid}
use Rattle.graph_search.specs.Search.{filled, is_among}
use Rattle.graph_search.specs.ByHolding.{unnamed}
use Rattle.search_sets.proofs.keeping.name_all.Given as goal

abbrev pub invariant-loop-slot : goal.invariant-loop-slot
invariant-loop-slot l = record {
  fresh : l.fresh ++ unnamed (set.contains l.named) (filled (drop l.slot-index l.slots)) ≡ unnamed (set.contains l.initial.named) (filled l.slots);
  named : (q : Tid) → (set.contains l.named q || is_among (filled (drop l.slot-index l.slots)) q) ≡ (set.contains l.initial.named q || is_among (filled l.slots) q);
}
