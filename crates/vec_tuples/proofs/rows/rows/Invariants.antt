use Rattle.std.proofs.Common.{◌≡◌, ◌≤◌, ◌-◌, length}
use Rattle.vec_tuples.specs.Reading.{rows}
use Rattle.byte_fields.proofs.Loops.{with_front}
use Rattle.vec_tuples.proofs.rows.rows.Given as goal

abbrev pub invariant-places : goal.invariant-places
invariant-places l = (length l.ids.items ≤ l.at) × (with_front l.ids.items (rows l.shut (10 - l.at) l.rest) ≡ rows l.closed 10 l.bytes)
