use Rattle.std.proofs.Common.{◌≡◌, ◌*◌, ◌++◌, length, drop}
use Rattle.vec_tuples.specs.Spelling.{rows_bytes}
use Rattle.vec_tuples.proofs.rows.fill_rows.Given as goal

abbrev pub invariant-places : goal.invariant-places
invariant-places l = (length l.into ≡ 60) × (l.into ≡ rows_bytes l.at l.ids ++ drop (6 * l.at) l.initial.into)
