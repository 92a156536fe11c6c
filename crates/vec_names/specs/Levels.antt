-- The level of a new node, by a random word of 64 bits. As in the HNSW paper with its usual scale 1 / ln m, a node reaches each
-- further level with one chance in m; here in whole numbers.
use Rattle.std.specs.Prelude.{ℕ, zero, suc, ◌+◌, ◌-◌, ◌/◌, ◌^◌, min, nat_lt, Bool, if◌then◌else◌}
use Rattle.index_sizes.specs.declared.limits.TheConstants.{MOST_SLOTS}

-- The highest level of a node: its slots, m for each level and m more, fit one item of a page, and the level one byte.
abbrev pub most_level : ℕ → ℕ
most_level m = min (MOST_SLOTS / m - 2) 255

-- the lowest 2^64 / m^level words reach a level
abbrev pub does_reach : ℕ → ℕ → ℕ → Bool
does_reach word m level = nat_lt word (2 ^ 64 / m ^ level)

-- how many of the levels from 1 up to this one a word reaches
abbrev pub levels_reached : ℕ → ℕ → ℕ → ℕ
levels_reached word m zero = 0
levels_reached word m (suc level) = levels_reached word m level + (if does_reach word m (suc level) then 1 else 0)

abbrev pub level_of : ℕ → ℕ → ℕ
level_of word m = levels_reached word m (most_level m)
