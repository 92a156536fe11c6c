use Rattle.std.proofs.Common.{arith, ap, ◌∙◌, ℕ, ◌/◌, ◌^◌, ◌-◌, Some, sym}
use Rattle.std.specs.Prelude.{◌==◌}
use Rattle.std.proofs.lemmas.Nat.{and_mask}
use Rattle.bit_code.proofs.PackedPlaces.{slice_get-places}
use Rattle.bit_code.proofs.bits.is_one.Goals as goal

pub returns : goal.returns
returns c =
    slice_get-places 7 c.args.byte c.args.place (omega (arith, c.requires))
    ∙ ap (λ (n : ℕ). Some (n == 1)) (sym (and_mask (c.args.byte / 2 ^ (7 - c.args.place)) 1))
