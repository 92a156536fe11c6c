use Rattle.std.proofs.Common.{◌++◌, take}
use Rattle.std.specs.List.Sorted.{IsPermutation}
use Rattle.std.specs.BinaryHeap.{heap_items, IsHeap}
use Rattle.search_sets.specs.Keys.{urgency}
use Rattle.search_sets.proofs.candidates.join.Given as goal

abbrev pub invariant-loop-key : goal.invariant-loop-key
invariant-loop-key l = record { heap : IsHeap urgency (heap_items l.near); whole : IsPermutation (heap_items l.initial.near ++ take l.key-index l.far) (heap_items l.near) }
