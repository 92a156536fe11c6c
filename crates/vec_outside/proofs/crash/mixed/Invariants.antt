use Rattle.std.proofs.Common.{◌≤◌, length, vec_len}
use Rattle.vec_outside.specs.Areas.{bytes_of}
use Rattle.vec_outside.proofs.Crashes.{IsMixing}
use Rattle.vec_outside.proofs.crash.mixed.Given as goal

abbrev pub invariant-loop-piece : goal.invariant-loop-piece
invariant-loop-piece l = (vec_len l.pieces ≤ length l.line.done.items) × IsMixing l.area (bytes_of l.line.areas l.area) l.line.done.items (vec_len l.pieces) l.bytes.items

abbrev pub decreases-loop-piece : goal.decreases-loop-piece
decreases-loop-piece l = vec_len l.pieces
