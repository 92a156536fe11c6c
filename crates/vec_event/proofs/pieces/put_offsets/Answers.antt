use Rattle.std.proofs.Common.{arith}
use Rattle.vec_event.proofs.CountedFields.{few_offsets_at}
use Rattle.vec_event.proofs.pieces.put_offsets.Goals as goal

pub overflow_cast-offsets : goal.overflow_cast-offsets
overflow_cast-offsets c = omega (arith, few_offsets_at c.args.offsets.now c.requires.rises (λ i. omega (arith, c.type_inv.offsets i)))
