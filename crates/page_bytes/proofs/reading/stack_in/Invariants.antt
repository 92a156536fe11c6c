use Rattle.std.proofs.Common.{◌≡◌, ◌+◌, ◌≤◌}
use Rattle.page_bytes.specs.Format.{stack, bad_place, lens_at, room_of}
use Rattle.page_bytes.proofs.reading.stack_in.Given as goal

abbrev pub invariant-items : goal.invariant-items
invariant-items l =
    (l.left ≤ l.count) × (l.at + room_of (lens_at l.bytes l.left) ≡ 8184) × (bad_place (stack (lens_at l.bytes l.count)) l.bytes l.upper ≡ bad_place (stack (lens_at l.bytes l.left)) l.bytes l.at)

abbrev pub decreases-items : goal.decreases-items
decreases-items l = l.left
