-- Lists in order: what a stable sort gives, as a function.
use Rattle.std.specs.Prelude.{Bool, List, [], ◌∷◌, if◌then◌else◌}

-- the list with one element more, which stands before all that are not less
abbrev pub placed : {X : Type 0} → (X → X → Bool) → X → List X → List X
placed lt x [] = x ∷ []
placed lt x (y ∷ ys) = if lt y x then y ∷ placed lt x ys else x ∷ y ∷ ys

-- the elements in order, equal ones as they stood
abbrev pub ranked : {X : Type 0} → (X → X → Bool) → List X → List X
ranked lt [] = []
ranked lt (x ∷ xs) = placed lt x (ranked lt xs)
