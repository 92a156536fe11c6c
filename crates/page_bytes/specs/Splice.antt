-- Writing over a part of some bytes.
use Rattle.std.specs.Prelude.{ℕ, ◌+◌, List, ◌++◌, length, take, drop}
use Rattle.std.specs.Int.{w16, to_le_bytes}
use Rattle.page_bytes.specs.Spelling.{line_pointer}

-- the bytes with a part written at a place
unfoldable pub spliced : List ℕ → ℕ → List ℕ → List ℕ
spliced bytes at part = take at bytes ++ (part ++ drop (at + length part) bytes)

-- the bytes with an item written at a place, its line pointer at lower, and the two ends in the header
unfoldable pub with_item : List ℕ → ℕ → ℕ → List ℕ → List ℕ
with_item bytes lower place item =
    spliced (spliced (spliced (spliced bytes place item) lower (line_pointer place (length item)))
    12 (to_le_bytes w16 (lower + 4))) 14 (to_le_bytes w16 place)
