use Rattle.std.proofs.Common.{arith, sym}
use Rattle.bit_code.specs.Places.{one_if_unequal}
use Rattle.bit_code.proofs.TalliedBytes.{tally_none, tally_next}
use Rattle.bit_code.proofs.counts.unequal_by_byte.Goals as goal

pub loop-i-init : goal.loop-i-init
loop-i-init c = record { counted = sym (tally_none one_if_unequal); small = omega arith }

pub loop-i-preserved : goal.loop-i-preserved
loop-i-preserved c = record {
  counted = omega (arith, tally_next one_if_unequal c.loop-i.i c.args.a.now c.args.b.now c.requires.same c.loop-i-test.true);
  small = omega arith;
}
