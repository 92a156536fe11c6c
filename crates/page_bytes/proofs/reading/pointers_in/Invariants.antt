use Rattle.std.proofs.Common.{◌≡◌, ℕ, ◌+◌, ◌-◌, ◌*◌, []}
use Rattle.page_bytes.specs.Format.{pointers, bad_place, lens_at}
use Rattle.page_bytes.proofs.Readers.{Read}
use Rattle.page_bytes.proofs.reading.pointers_in.Given as goal

abbrev pub invariant-loop-i : goal.invariant-loop-i
invariant-loop-i l =
    Read l.bytes l.count l.upper l.i l.top × ((gap : ℕ) → bad_place (pointers l.count gap l.upper 8184 []) l.bytes 24 ≡ bad_place (pointers (l.count - l.i) gap l.upper l.top (lens_at l.bytes l.i)) l.bytes (24 + 4 * l.i))
