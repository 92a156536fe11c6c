use Rattle.std.proofs.Common.{◌≡◌, ◌++◌, drop}
use Rattle.list_values.specs.Masks.{kept}
use Rattle.vec_graph.proofs.applying.kept_ids.Given as goal

-- what is left so far, and what the rest of the mask leaves of the other ids
abbrev pub invariant-loop-id : goal.invariant-loop-id
invariant-loop-id l = l.left ++ kept l.mask (drop l.id-index l.ids) ≡ kept l.gone l.ids
