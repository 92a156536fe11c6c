use Rattle.std.proofs.Common.{◌≡◌, ◌≤◌, ◌*◌, take}
use Rattle.bit_code.specs.Places.{unpacked, both}
use Rattle.bit_code.proofs.counts.both_by_byte.Given as goal

abbrev pub invariant-loop-i : goal.invariant-loop-i
invariant-loop-i l = record {
  counted : l.total ≡ both (unpacked (take l.i l.a)) (unpacked (take l.i l.b));
  small : l.total ≤ 8 * l.i;
}
