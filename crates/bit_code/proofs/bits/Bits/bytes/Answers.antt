use Rattle.std.proofs.Common.{rules, ◌<◌, sym, subst, ◌∙◌, ℕ, List, get_or}
use Rattle.bit_code.proofs.PackedPlaces.{packed_view}
use Rattle.bit_code.proofs.bits.Bits.bytes.Goals as goal

pub returns : goal.returns
returns c =
    let fit : (i : ℕ) → get_or c.as_slice-bytes.result.now i 0 < 256 = search rules in
    c.as_slice-bytes.ensures.value
    ∙ sym (packed_view c.self.inside.count c.self.inside.bytes.items c.args.self.now c.self.invariant
    (subst (λ (xs : List ℕ). (i : ℕ) → get_or xs i 0 < 256) c.as_slice-bytes.ensures.value fit) c.self.view_is)
