use Rattle.std.proofs.Common.{rules, arith, ◌≡◌, ap₂, ◌∙◌, ℕ, length}
use Rattle.std.specs.Int.Bits.{bit_and}
use Rattle.std.specs.Int.Count.{ones}
use Rattle.bit_code.specs.Places.{one_if_both}
use Rattle.bit_code.proofs.TalliedBytes.{tally-words, tally_bytes-le, and-both, both-most}
use Rattle.bit_code.proofs.counts.both_in_word.Goals as goal

pub returns-clause-count : goal.returns-clause-count
returns-clause-count c =
    ap₂ (λ (x y : ℕ). ones (bit_and x y)) c.from_le_bytes.ensures c.from_le_bytes-2.ensures
    ∙ tally-words bit_and one_if_both and-both c.args.a c.args.b (search rules) (search rules) (search rules) (search rules)

pub returns-clause-small : goal.returns-clause-small
returns-clause-small c =
    let counted = returns-clause-count c in
    let long : length c.args.a ≡ 8 = search rules in
    omega (arith, counted, tally_bytes-le one_if_both both-most c.args.a c.args.b, long)
