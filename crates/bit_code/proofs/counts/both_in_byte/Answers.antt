use Rattle.std.proofs.Common.{arith, ◌∷◌, []}
use Rattle.std.specs.Int.Bits.{bit_and}
use Rattle.bit_code.specs.Places.{one_if_both}
use Rattle.bit_code.proofs.TalliedBytes.{tally-byte, tally_bytes-le, and-both, both-most}
use Rattle.bit_code.proofs.counts.both_in_byte.Goals as goal

pub returns-clause-count : goal.returns-clause-count
returns-clause-count c = tally-byte bit_and one_if_both and-both c.args.a c.args.b (omega arith) (omega arith)

pub returns-clause-small : goal.returns-clause-small
returns-clause-small c = let counted = returns-clause-count c in omega (arith, counted, tally_bytes-le one_if_both both-most (c.args.a ∷ []) (c.args.b ∷ []))
