use Rattle.std.proofs.Common.{◌++◌, List, subst}
use Rattle.std.specs.BinaryHeap.{heap_items}
use Rattle.search_sets.specs.declared.key.Key.{Key}
use Rattle.search_sets.specs.Leading.{IsTaken}
use Rattle.search_sets.proofs.Leaders.{gathered_taken}
use Rattle.search_sets.proofs.candidates.take_of.Goals as goal

pub returns-then-is_far_first-clause-whole : goal.returns-then-is_far_first-clause-whole
returns-then-is_far_first-clause-whole c =
    gathered_taken (heap_items c.args.near.now) c.args.far.now.items (heap_items c.gather.new.near) c.gather.new.far.items (heap_items c.take_near-taken.new.near) c.take_near-taken.result
    c.in_ok-gather.ensures.whole c.in_ok-gather.ensures.none
    (subst (λ (l : List Key). IsTaken (heap_items c.gather.new.near ++ l) (heap_items c.take_near-taken.new.near ++ l) c.take_near-taken.result) c.deref-then-is_far_first.ensures.value c.take_near-taken.ensures.whole)
