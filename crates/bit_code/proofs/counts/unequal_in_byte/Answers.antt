use Rattle.std.proofs.Common.{arith, ◌∷◌, []}
use Rattle.std.specs.Int.Bits.{bit_xor}
use Rattle.bit_code.specs.Places.{one_if_unequal}
use Rattle.bit_code.proofs.TalliedBytes.{tally-byte, tally_bytes-le, xor-unequal, unequal-most}
use Rattle.bit_code.proofs.counts.unequal_in_byte.Goals as goal

pub returns-clause-count : goal.returns-clause-count
returns-clause-count c = tally-byte bit_xor one_if_unequal xor-unequal c.args.a c.args.b (omega arith) (omega arith)

pub returns-clause-small : goal.returns-clause-small
returns-clause-small c = let counted = returns-clause-count c in omega (arith, counted, tally_bytes-le one_if_unequal unequal-most (c.args.a ∷ []) (c.args.b ∷ []))
