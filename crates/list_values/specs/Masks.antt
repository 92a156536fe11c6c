-- The elements of a list that a mask of bits leaves.
use Rattle.std.specs.Prelude.{ℕ, ◌/◌, ◌%◌, ◌==◌, if◌then◌else◌, List, [], ◌∷◌}

-- the elements that the mask does not name, whose lowest bit is for the first; the others close up
abbrev pub kept : {X : Type 0} → ℕ → List X → List X
kept mask [] = []
kept mask (x ∷ xs) = if mask % 2 == 1 then kept (mask / 2) xs else x ∷ kept (mask / 2) xs
