-- The first of a list that is not in order.
use Rattle.std.specs.Prelude.{◌≡◌, List, [], ◌∷◌, Option, MatchOption}
use Rattle.std.specs.List.Sorted.{IsPermutation}
use Rattle.search_sets.specs.declared.key.Key.{Key}
use Rattle.search_sets.specs.Keys.{in_order}
use Rattle.search_sets.specs.Bests.{NoneBefore}

-- none comes before the one that stands first
abbrev pub IsLed : List Key → Type 0
IsLed [] = Unit {0}
IsLed (f ∷ rest) = NoneBefore f rest

-- it is one of them, and none comes before it
pub record Leads (k : Key) (xs : List Key) : Type 0 where
  pub rest : List Key
  pub same : IsPermutation (k ∷ rest) xs
  pub none : NoneBefore k rest

-- where one leads the first list, it comes before none of the second; and where the first has none, neither has the second
pub record IsFirst (xs ys : List Key) : Type 0 where
  pub leads : (k : Key) → Leads k xs → NoneBefore k ys
  pub none : xs ≡ [] → ys ≡ []

-- the first of the old ones, in order, was taken, and the new ones are left; or there was none
abbrev pub IsTaken : List Key → List Key → Option Key → Type 0
IsTaken old new r = MatchOption r ((in_order old ≡ []) × (in_order new ≡ [])) (λ key. in_order old ≡ key ∷ in_order new)
