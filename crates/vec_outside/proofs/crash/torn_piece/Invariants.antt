use Rattle.std.proofs.Common.{◌≡◌, vec_len}
use Rattle.vec_outside.proofs.crash.torn_piece.Given as goal

abbrev pub invariant-loop-i : goal.invariant-loop-i
invariant-loop-i l = vec_len l.torn ≡ l.i
