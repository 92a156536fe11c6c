use Rattle.std.proofs.Common.{refl, lit≤}
use Rattle.vec_tuples.specs.Spelling.{OfElement}
use Rattle.vec_tuples.proofs.tests.elements_there_and_back.Goals as goal

pub packed-requires : goal.packed-requires
packed-requires g c =
    let told = c.in_ok-element.ensures.spelled in (
      c.in_ok-element.element.bits,
      OfElement _ c.in_ok-element.element (record { bits_low = lit≤ tt; bits_high = lit≤ tt; of_kind = record { m_low = lit≤ tt; m_high = lit≤ tt; ef_low = lit≤ tt; ef_high = lit≤ tt; ef_twice_m = lit≤ tt; no_lists = refl } }) told.0
          told.1 refl,
    )
