use Rattle.std.proofs.Common.{◌≡◌, ◌*◌, ◌++◌, length, take, drop}
use Rattle.std.specs.List.{flat_map}
use Rattle.vec_names.specs.Pointer.{tid_option_bytes}
use Rattle.vec_tuples.proofs.links_in_place.fill_slots.Given as goal

abbrev pub invariant-places : goal.invariant-places
invariant-places l = (length l.into ≡ 6 * length l.tids) × (l.into ≡ flat_map tid_option_bytes (take l.at l.tids) ++ drop (6 * l.at) l.initial.into)
