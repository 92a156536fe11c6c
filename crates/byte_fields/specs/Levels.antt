-- Which levels may stand beside an entry point.
use Rattle.std.specs.Prelude.{ℕ, ◌==◌, Bool, true, Option, Some, None}
use Rattle.vec_names.specs.declared.tid.Tid.{Tid}

-- a level stands above 0 only beside an entry point
abbrev pub is_level : Option Tid → ℕ → Bool
is_level None level = level == 0
is_level (Some at) level = true
