use Rattle.std.proofs.Common.{refl}
use Rattle.bit_code.specs.Places.{one_if_unequal}
use Rattle.bit_code.proofs.TalliedBytes.{same_long, tally_views}
use Rattle.bit_code.proofs.counts.count_unequal.Goals as goal

pub unequal_by_word-requires-clause-same : goal.unequal_by_word-requires-clause-same
unequal_by_word-requires-clause-same c = same_long _ _ _ _ _ _ _ _ c.a.view_is c.b.view_is c.requires c.a.invariant c.b.invariant c.as_slice.ensures.value c.as_slice-2.ensures.value

pub returns : goal.returns
returns c = tally_views one_if_unequal refl _ _ _ _ _ _ _ _ _ c.a.view_is c.b.view_is c.requires c.a.invariant c.b.invariant c.as_slice.ensures.value c.as_slice-2.ensures.value c.unequal_by_word.ensures
