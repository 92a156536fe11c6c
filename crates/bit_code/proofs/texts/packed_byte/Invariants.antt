use Rattle.std.proofs.Common.{◌≡◌, ◌<◌, ◌^◌, take}
use Rattle.bit_code.specs.Places.{places}
use Rattle.bit_code.specs.Texts.{places_of_text}
use Rattle.bit_code.proofs.texts.packed_byte.Given as goal

abbrev pub invariant-loop-i : goal.invariant-loop-i
invariant-loop-i l = record {
  packed : places l.i l.byte ≡ places_of_text (take l.i l.text);
  small : l.byte < 2 ^ l.i;
}
