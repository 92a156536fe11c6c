use Rattle.std.proofs.Common.{◌≡◌, ◌-◌}
use Rattle.vec_event.specs.Reading.{rising}
use Rattle.byte_fields.proofs.Loops.{with_front}
use Rattle.vec_event.proofs.counted.rising.Given as goal

abbrev pub invariant-offsets : goal.invariant-offsets
invariant-offsets l = with_front l.offsets.items (rising l.low (l.count - l.counter) l.rest) ≡ rising 0 l.count l.bytes
