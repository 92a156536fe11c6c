use Rattle.std.proofs.Common.{sym, arith}
use Rattle.vec_names.proofs.PlaceLaws.{tid_of-none}
use Rattle.vec_graph.proofs.places.tid.Goals as goal

pub returns-then-block-from : goal.returns-then-block-from
returns-then-block-from c = sym (tid_of-none _ _ (λ b o s. omega arith))

pub returns-then-off-gt-LAST_OFF : goal.returns-then-off-gt-LAST_OFF
returns-then-off-gt-LAST_OFF c = sym (tid_of-none _ _ (λ b o s. omega arith))
