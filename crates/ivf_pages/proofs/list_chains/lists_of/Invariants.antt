use Rattle.std.proofs.Common.{◌≡◌, ◌+◌, drop, length}
use Rattle.std.specs.Vec.Iter.{into_iter_items}
use Rattle.ivf_pages.proofs.BuiltLists.{IsBuilding}
use Rattle.ivf_pages.proofs.list_chains.lists_of.Given as goal

-- the lists so far are built
abbrev pub invariant-loop-tuple : goal.invariant-loop-tuple
invariant-loop-tuple l =
    (goal.iterator-loop-tuple).can_next l.tuple-iterator × (goal.iterator-loop-tuple).is_finite l.tuple-iterator
    × (l.i + length (into_iter_items l.tuple-iterator) ≡ length l.chains)
    × IsBuilding l.fn.tuples (into_iter_items l.tuple-iterator) l.chains (drop l.i l.chains) l.initial.rows.items l.rows.items l.lists
