use Rattle.std.proofs.Common.{◌≡◌, ◌-◌}
use Rattle.byte_fields.specs.Reading.{times, slot_of}
use Rattle.byte_fields.proofs.Loops.{with_front}
use Rattle.byte_fields.proofs.optional.slots.Given as goal

abbrev pub invariant-places : goal.invariant-places
invariant-places l = with_front l.places.items (times (slot_of l.closed) (l.count - l.counter) l.rest) ≡ times (slot_of l.closed) l.count l.bytes
