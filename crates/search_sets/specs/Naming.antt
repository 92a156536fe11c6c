-- A slot's place is named.
use Rattle.std.specs.Prelude.{Bool, true, false, List, [], ◌∷◌, Option, Some, None, if◌then◌else◌}
use Rattle.std.specs.Option.{option_map_or}
use Rattle.std.specs.FinSet as set
use Rattle.vec_names.specs.declared.tid.Tid.{Tid}
use Rattle.vec_names.specs.Order.{tid_cmp}
use Rattle.search_sets.specs.declared.key.Key.{Key}
use Rattle.search_sets.specs.Keys.{is_nearer}

-- with the place of a slot, if it has one
abbrev pub named_by : Option Tid → set.FinSet tid_cmp → set.FinSet tid_cmp
named_by None named = named
named_by (Some at) named = set.insert named at

-- the place of a slot, if it has one that was not named
abbrev pub new_by : Option Tid → set.FinSet tid_cmp → List Tid
new_by None named = []
new_by (Some at) named = if set.contains named at then [] else at ∷ []

-- nothing waits, or the least that waits comes after the last that is wanted
abbrev pub is_past : Option Key → Option Key → Bool
is_past None last = true
is_past (Some least) last = option_map_or (λ key. is_nearer key least) last false
