use Rattle.std.proofs.Common.{◌≡◌, take, drop, vec_len}
use Rattle.vec_outside.specs.Areas.{bytes_of}
use Rattle.vec_outside.specs.Crash.{UndoneBy}
use Rattle.vec_outside.specs.MemDisk.{left_by_sync, synced_image}
use Rattle.vec_outside.proofs.crash.go_back.Given as goal

abbrev pub invariant-loop-i : goal.invariant-loop-i
invariant-loop-i l = (vec_len l.pieces ≡ l.i)
    × UndoneBy l.area (bytes_of l.line.areas l.area) (take l.i l.line.done.items) l.bytes.items
    × (left_by_sync l.area l.bytes.items (drop l.i l.line.done.items) ≡ synced_image l.line l.area)
