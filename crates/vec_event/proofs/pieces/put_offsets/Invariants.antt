use Rattle.std.proofs.Common.{◌≡◌, ◌≤◌, ◌+◌, ◌*◌, ◌++◌, take, vec_len, vec_capacity}
use Rattle.std.specs.List.{flat_map}
use Rattle.std.specs.Int.{w16, to_le_bytes}
use Rattle.vec_event.proofs.pieces.put_offsets.Given as goal

abbrev pub invariant-offsets : goal.invariant-offsets
invariant-offsets l =
    (l.into.items ≡ l.initial.into.items ++ flat_map (to_le_bytes w16) (take l.offset-index l.offsets)) × (vec_len l.into ≡ vec_len l.initial.into + 2 * l.offset-index)
    × (vec_capacity l.initial.into ≤ vec_capacity l.into)
