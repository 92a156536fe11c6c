-- The nearest, in order, before the others.
use Rattle.std.specs.Prelude.{◌≡◌, ℕ, ◌+◌, ◌-◌, ◌≤◌, Bool, true, false, not, List, [], ◌∷◌, length, slice_get, if◌then◌else◌}
use Rattle.std.specs.Option.{option_map_or}
use Rattle.std.specs.List.{AllByRecursion}
use Rattle.search_sets.specs.declared.key.Key.{Key}
use Rattle.search_sets.specs.Keys.{is_before}

-- no key of these comes before x
abbrev pub NoneBefore : Key → List Key → Type 0
NoneBefore x ys = AllByRecursion (λ y. is_before y x ≡ false) ys

-- in order
abbrev pub Rise : List Key → Type 0
Rise [] = Unit {0}
Rise (x ∷ xs) = NoneBefore x xs × Rise xs

-- how many stand before it
abbrev pub place_in : {X : Type 0} → (X → X → Bool) → X → List X → ℕ
place_in lt x [] = 0
place_in lt x (y ∷ ys) = if lt y x then place_in lt x ys + 1 else 0

-- there are others only where there are as many as are wanted
abbrev pub HasOthers : ℕ → List Key → List Key → Type 0
HasOthers most best [] = Unit {0}
HasOthers most best (r ∷ rest) = length best ≡ most

pub record IsSplit (most : ℕ) (best rest : List Key) : Type 0 where
  pub some : 1 ≤ most
  pub within : length best ≤ most
  pub rise : Rise best
  pub below : AllByRecursion (λ x. NoneBefore x rest) best
  pub full : HasOthers most best rest

-- of so many that are wanted, and all found in order: a further one is among those that are wanted where there are fewer, or the last that
-- is wanted does not come before it
abbrev pub is_wanted : Key → ℕ × List Key → Bool
is_wanted key n = option_map_or (λ last. not (is_before last key)) (slice_get n.1 (n.0 - 1)) true
