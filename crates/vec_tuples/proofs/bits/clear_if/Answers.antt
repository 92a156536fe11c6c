use Rattle.std.proofs.Common.{◌∙◌}
use Rattle.vec_tuples.proofs.Clear.{cleared}
use Rattle.vec_tuples.proofs.bits.clear_if.Goals as goal

pub returns-then-deleted : goal.returns-then-deleted
returns-then-deleted c = λ bits is. rw c.if-deleted.true (c.clear.ensures ∙ cleared c.args.value.now bits is)
