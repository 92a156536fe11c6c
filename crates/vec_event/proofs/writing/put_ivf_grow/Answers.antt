use Rattle.std.proofs.Common.{append_assoc, refl}
use Rattle.vec_event.specs.Spelling.{spelling}
use Rattle.vec_event.proofs.writing.put_ivf_grow.Goals as goal

pub returns-clause-items : goal.returns-clause-items
unfolding spelling
returns-clause-items c =
    rw (
      c.put_bits.ensures.items,
      c.put-5.ensures.items,
      c.put-4.ensures.items,
      c.put-3.ensures.items,
      c.put-2.ensures.items,
      c.put.ensures.items,
      c.spelled.ensures,
      c.to_le_bytes.ensures,
      c.to_le_bytes-2.ensures,
      c.to_le_bytes-3.ensures,
    ) (simp append_assoc refl)
