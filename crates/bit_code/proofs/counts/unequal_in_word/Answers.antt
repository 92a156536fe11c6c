use Rattle.std.proofs.Common.{rules, arith, ◌≡◌, ap₂, ◌∙◌, ℕ, length}
use Rattle.std.specs.Int.Bits.{bit_xor}
use Rattle.std.specs.Int.Count.{ones}
use Rattle.bit_code.specs.Places.{one_if_unequal}
use Rattle.bit_code.proofs.TalliedBytes.{tally-words, tally_bytes-le, xor-unequal, unequal-most}
use Rattle.bit_code.proofs.counts.unequal_in_word.Goals as goal

pub returns-clause-count : goal.returns-clause-count
returns-clause-count c =
    ap₂ (λ (x y : ℕ). ones (bit_xor x y)) c.from_le_bytes.ensures c.from_le_bytes-2.ensures
    ∙ tally-words bit_xor one_if_unequal xor-unequal c.args.a c.args.b (search rules) (search rules) (search rules) (search rules)

pub returns-clause-small : goal.returns-clause-small
returns-clause-small c =
    let counted = returns-clause-count c in
    let long : length c.args.a ≡ 8 = search rules in
    omega (arith, counted, tally_bytes-le one_if_unequal unequal-most c.args.a c.args.b, long)
