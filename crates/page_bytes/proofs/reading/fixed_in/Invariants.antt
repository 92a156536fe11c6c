use Rattle.std.proofs.Common.{◌≡◌, ◌+◌, drop}
use Rattle.page_bytes.specs.Format.{Format, fixed, bad_place}
use Rattle.page_bytes.proofs.reading.fixed_in.Given as goal

abbrev pub invariant-loop-i : goal.invariant-loop-i
invariant-loop-i l =
    (next : Format) → bad_place (fixed l.want next) l.bytes l.at ≡ bad_place (fixed (drop l.i l.want) next) l.bytes (l.at + l.i)
