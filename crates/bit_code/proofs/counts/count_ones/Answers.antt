use Rattle.std.proofs.Common.{refl, ◌∙◌}
use Rattle.bit_code.specs.Places.{one_if_both}
use Rattle.bit_code.proofs.TalliedBytes.{same_long, tally_views}
use Rattle.bit_code.proofs.PackedPlaces.{both-self}
use Rattle.bit_code.proofs.counts.count_ones.Goals as goal

pub both_by_word-requires-clause-same : goal.both_by_word-requires-clause-same
both_by_word-requires-clause-same c = same_long _ _ _ _ _ _ _ _ c.a.view_is c.a.view_is refl c.a.invariant c.a.invariant c.as_slice.ensures.value c.as_slice-2.ensures.value

pub returns : goal.returns
returns c =
    tally_views one_if_both refl _ _ _ _ _ _ _ _ _ c.a.view_is c.a.view_is refl c.a.invariant c.a.invariant c.as_slice.ensures.value c.as_slice-2.ensures.value c.both_by_word.ensures
    ∙ both-self c.args.a.now
