use Rattle.std.proofs.Common.{rules, ◌<◌, ap, refl, ◌∙◌, ℕ, List, get_or, take}
use Rattle.bit_code.specs.Places.{unpacked, packed}
use Rattle.bit_code.proofs.PackedPlaces.{packed_view}
use Rattle.bit_code.proofs.bits.Bits.from_bytes.Goals as goal

pub returns-clause-bytes : goal.returns-clause-bytes
returns-clause-bytes c =
    let fit : (i : ℕ) → get_or c.args.bytes.now i 0 < 256 = search rules in
    ap (λ (l : List ℕ). packed (take c.args.count (unpacked l))) c.in_ok-bytes.ensures.items
    ∙ packed_view c.args.count c.args.bytes.now _ c.requires fit refl
