use Rattle.std.proofs.Common.{◌≡◌, take, Some}
use Rattle.graph_search.specs.Insert.{without}
use Rattle.layer_search.proofs.choosing.copies_of_others.Given as goal

abbrev pub invariant-loop-element : goal.invariant-loop-element
invariant-loop-element l = l.others ≡ without (Some l.except) (take l.element-index l.found)
