use Rattle.std.proofs.Common.{arith, get_or}
use Rattle.std.specs.Prelude.{◌==◌}
use Rattle.bit_code.proofs.PackedTexts.{packed_start, packed_step, packed_small}
use Rattle.bit_code.proofs.texts.packed_byte.Goals as goal

pub loop-i-init : goal.loop-i-init
loop-i-init c = record { packed = packed_start; small = omega arith }

pub loop-i-preserved : goal.loop-i-preserved
loop-i-preserved c = record {
  packed = packed_step c.loop-i.i c.loop-i.byte c.args.text c.from.result c.from.ensures (omega arith) c.loop-i.invariant.packed;
  small = packed_small c.loop-i.i c.loop-i.byte (get_or c.args.text c.loop-i.i 0 == 49) c.from.result c.from.ensures c.loop-i.invariant.small;
}
