use Rattle.std.proofs.Common.{arith, ap, ◌∙◌, ◌-◌, ℕ, Some}
use Rattle.std.specs.Int.Bits.{bit_xor}
use Rattle.std.proofs.lemmas.Nat.{one_shl}
use Rattle.bit_code.specs.Places.{places}
use Rattle.bit_code.proofs.ChangedPlaces.{place_turned, set-same, beq-same}
use Rattle.bit_code.proofs.bits.with_place.Goals as goal

pub returns-then-is_one-one : goal.returns-then-is_one-one
returns-then-is_one-one c = set-same _ _ _ (c.is_one.ensures ∙ ap Some (beq-same _ _ c.if-is_one-one.true))

pub returns : goal.returns
returns c =
    ap (λ (k : ℕ). places 8 (bit_xor c.args.byte k)) (one_shl (7 - c.args.place) 8 (omega arith))
    ∙ place_turned c.args.byte c.args.place _ _ c.requires c.is_one.ensures c.if-is_one-one.false
