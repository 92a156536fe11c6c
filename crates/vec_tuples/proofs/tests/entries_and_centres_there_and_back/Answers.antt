use Rattle.std.proofs.Common.{refl, lit≤}
use Rattle.vec_names.specs.declared.params.Kind.TheVariants.{Ivf}
use Rattle.vec_names.specs.declared.params.Ops.TheVariants.{Hamming}
use Rattle.vec_names.specs.declared.params.Params.{Params}
use Rattle.vec_names.specs.Params.{IsInRange}
use Rattle.vec_tuples.specs.Spelling.{OfCentre, OfEntry}
use Rattle.vec_tuples.proofs.tests.entries_and_centres_there_and_back.Goals as goal

abbrev four : Params
four = record { kind = Ivf; ops = Hamming; bits = 4; m = 0; ef = 0; lists = 3 }

four_in_range : IsInRange four
four_in_range = record { bits_low = lit≤ tt; bits_high = lit≤ tt; of_kind = record { hamming = refl; lists_low = lit≤ tt; lists_high = lit≤ tt; no_m = refl; no_ef = refl } }

pub packed-requires : goal.packed-requires
packed-requires g c =
    let told = c.in_ok-row.ensures.spelled in
    (c.in_ok-row.row.bits, OfEntry four c.in_ok-row.row four_in_range told.0 told.1 refl)

pub packed-requires-2 : goal.packed-requires-2
packed-requires-2 g c =
    let told = c.in_ok-centre.ensures.spelled in
    (c.in_ok-centre.centre.bits, OfCentre four c.in_ok-centre.centre four_in_range told.0 told.1 refl)
