use Rattle.std.proofs.Common.{◌≡◌, ◌-◌, List, Option, length}
use Rattle.vec_names.specs.declared.tid.Tid.{Tid}
use Rattle.byte_fields.proofs.Loops.{with_front}
use Rattle.byte_fields.specs.Reading.{times, slot_of}
use Rattle.vec_tuples.proofs.slots.skip_slots.Given as goal

-- some slots were passed
abbrev pub invariant-places : goal.invariant-places
invariant-places l =
    (front : List (Option Tid)) × (length front ≡ l.counter) × (with_front front (times (slot_of l.deleted) (l.count - l.counter) l.rest) ≡ times (slot_of l.deleted) l.count l.bytes)
