use Rattle.std.proofs.Common.{arith, sym, ◌∙◌, ◌≡◌, ◌*◌, ◌-◌, length, get_or, drop, refl}
use Rattle.bit_code.specs.Places.{unpacked, places}
use Rattle.bit_code.proofs.PlaceParts.{unused-places}
use Rattle.bit_code.proofs.packing.has_clear_end.Goals as goal

pub returns : goal.returns
returns c =
    let spare = 8 * length c.args.bytes.now - c.args.count in
    let same : drop c.args.count (unpacked c.args.bytes.now) ≡ places spare (get_or c.args.bytes.now (length c.args.bytes.now - 1) 0) =
    unused-places c.args.count spare _ c.args.bytes.now c.requires.some c.requires.long (omega arith) refl in (
      λ t. same ∙ c.ends_in_zeros.ensures.0 t,
      λ e. c.ends_in_zeros.ensures.1 (sym same ∙ e),
    )
