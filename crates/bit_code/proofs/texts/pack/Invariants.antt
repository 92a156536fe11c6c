use Rattle.std.proofs.Common.{◌≡◌, ◌*◌, take, length}
use Rattle.bit_code.specs.Places.{unpacked}
use Rattle.bit_code.specs.Texts.{places_of_text}
use Rattle.bit_code.proofs.texts.pack.Given as goal

abbrev pub invariant-loop-i : goal.invariant-loop-i
invariant-loop-i l = record {
  packed : unpacked l.bytes.items ≡ places_of_text (take (8 * l.i) l.text);
  long : length l.bytes.items ≡ l.i;
}
