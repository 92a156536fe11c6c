use Rattle.std.proofs.Common.{arith, ap, sym, ◌∙◌, ◌≡◌, ◌*◌, ◌%◌, ◌^◌, ℕ, eq-eqb, eqb-true}
use Rattle.std.proofs.lemmas.Nat.{one_shl}
use Rattle.bit_code.proofs.PlaceParts.{clear-places, places-clear}
use Rattle.bit_code.proofs.packing.ends_in_zeros.Goals as goal

pub returns : goal.returns
returns c =
    let power : 1 * 2 ^ c.args.bits % 256 ≡ 2 ^ c.args.bits = one_shl c.args.bits 8 (omega (arith, c.requires)) in (
      λ t. clear-places c.args.bits c.args.byte (ap (λ (w : ℕ). c.args.byte % w) (sym power) ∙ eqb-true _ _ t),
      λ e. eq-eqb _ _ (ap (λ (w : ℕ). c.args.byte % w) power ∙ places-clear c.args.bits c.args.byte e),
    )
