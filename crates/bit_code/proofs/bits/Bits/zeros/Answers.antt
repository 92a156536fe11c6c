use Rattle.std.proofs.Common.{refl}
use Rattle.bit_code.proofs.ChangedPlaces.{zeros_packed, zeros_view}
use Rattle.bit_code.proofs.bits.Bits.zeros.Goals as goal

pub invariant_of-result : goal.invariant_of-result
invariant_of-result c =
    zeros_packed c.args.count _ c.in_ok-bytes.bytes.items c.requires.some c.requires.few refl (c.in_ok-bytes.ensures.items_if_clones_equal (λ y e. e))

pub returns-clause-value : goal.returns-clause-value
returns-clause-value c = zeros_view c.args.count _ c.in_ok-bytes.bytes.items refl (c.in_ok-bytes.ensures.items_if_clones_equal (λ y e. e))
