use Rattle.std.proofs.Common.{sym, arith}
use Rattle.vec_names.proofs.PlaceLaws.{tid_of-some, tid_of-none}
use Rattle.vec_names.proofs.tid.Tid.new.Goals as goal
use Rattle.vec_names.proofs.tid.Tid.new.Goals.{else-block-le-LAST_BLOCK-via-then-block-le-LAST_BLOCK+else-off-ge1, else-block-le-LAST_BLOCK-via-else-block-le-LAST_BLOCK}

pub returns-then-off-ge1-clause-exact : goal.returns-then-off-ge1-clause-exact
returns-then-off-ge1-clause-exact c = sym (tid_of-some _)

pub returns-else-block-le-LAST_BLOCK-clause-exact : goal.returns-else-block-le-LAST_BLOCK-clause-exact
returns-else-block-le-LAST_BLOCK-clause-exact c =
    sym (tid_of-none _ _ (λ b o s. elim c.else-block-le-LAST_BLOCK.branch [ else-block-le-LAST_BLOCK-via-then-block-le-LAST_BLOCK+else-off-ge1 w ↦ omega arith | else-block-le-LAST_BLOCK-via-else-block-le-LAST_BLOCK w ↦ omega arith ]))
