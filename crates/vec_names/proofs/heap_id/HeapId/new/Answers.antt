use Rattle.std.proofs.Common.{sym, arith}
use Rattle.vec_names.proofs.PlaceLaws.{heap_id_of-some, heap_id_of-none}
use Rattle.vec_names.proofs.heap_id.HeapId.new.Goals as goal
use Rattle.vec_names.proofs.heap_id.HeapId.new.Goals.{else-block-lt4294967295-via-then-block-lt4294967295+else-off-ge1, else-block-lt4294967295-via-else-block-lt4294967295}

pub returns-then-off-ge1-clause-exact : goal.returns-then-off-ge1-clause-exact
returns-then-off-ge1-clause-exact c = sym (heap_id_of-some _)

pub returns-else-block-lt4294967295-clause-exact : goal.returns-else-block-lt4294967295-clause-exact
returns-else-block-lt4294967295-clause-exact c =
    sym (heap_id_of-none _ _ (λ b o s. elim c.else-block-lt4294967295.branch [ else-block-lt4294967295-via-then-block-lt4294967295+else-off-ge1 w ↦ omega arith | else-block-lt4294967295-via-else-block-lt4294967295 w ↦ omega arith ]))
