use Rattle.std.proofs.Common.{◌≡◌, ◌≤◌, ◌+◌, ◌*◌, ◌++◌, take, vec_len, vec_capacity}
use Rattle.std.specs.List.{flat_map}
use Rattle.vec_names.specs.Pointer.{tid_option_bytes}
use Rattle.byte_fields.proofs.pieces.put_slots.Given as goal

abbrev pub invariant-slots : goal.invariant-slots
invariant-slots l =
    (l.into.items ≡ l.initial.into.items ++ flat_map tid_option_bytes (take l.slot-index l.slots)) × (vec_len l.into ≡ vec_len l.initial.into + 6 * l.slot-index)
    × (vec_capacity l.initial.into ≤ vec_capacity l.into)
