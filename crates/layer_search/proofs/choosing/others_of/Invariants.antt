use Rattle.std.proofs.Common.{◌≡◌, ◌++◌, Some}
use Rattle.std.specs.Vec.Iter.{into_iter_items}
use Rattle.graph_search.specs.Insert.{without}
use Rattle.layer_search.proofs.choosing.others_of.Given as goal

abbrev pub invariant-loop-element : goal.invariant-loop-element
invariant-loop-element l = l.others ++ without (Some l.except) (into_iter_items l.element-iterator) ≡ without (Some l.except) l.fn.found
