-- What the functions below the rounds work with.
use Rattle.std.specs.Prelude.{ℕ, ◌≡◌, ◌<◌, ◌≤◌, ◌==◌, if◌then◌else◌, Bool, List, [], ◌∷◌, length, get_or}
use Rattle.std.specs.List.{All}
use Rattle.ivf_means.specs.declared.row.Row.{Row}
use Rattle.ivf_means.specs.Centres.{ones_at}

-- each value has so many places
abbrev pub HaveLength : ℕ → List (List Bool) → Type 0
HaveLength long values = All (λ v. length v ≡ long) values

-- so has each row's value
abbrev pub RowsHaveLength : ℕ → List Row → Type 0
RowsHaveLength long rows = All (λ r. length r.bits ≡ long) rows

-- the values beside which a list's number stands
abbrev pub assigned_to : ℕ → List ℕ → List (List Bool) → List (List Bool)
assigned_to list [] values = []
assigned_to list (a ∷ more) [] = []
assigned_to list (a ∷ more) (v ∷ vs) = if a == list then v ∷ assigned_to list more vs else assigned_to list more vs

-- among the first n numbers this place has the least one, and those before it are greater
pub record IsLeastAt (numbers : List ℕ) (n : ℕ) (place : ℕ) (number : ℕ) : Type 0 where
  pub there : place < n
  pub is : get_or numbers place 0 ≡ number
  pub least : (j : ℕ) → j < n → number ≤ get_or numbers j 0
  pub first : (j : ℕ) → j < place → number < get_or numbers j 0

-- among the first n numbers this place has the greatest one, and those before it are less
pub record IsGreatestAt (numbers : List ℕ) (n : ℕ) (place : ℕ) (number : ℕ) : Type 0 where
  pub there : place < n
  pub is : get_or numbers place 0 ≡ number
  pub greatest : (j : ℕ) → j < n → get_or numbers j 0 ≤ number
  pub first : (j : ℕ) → j < place → get_or numbers j 0 < number

-- the tally of some values: at each place how many have a 1
pub record IsTally (values : List (List Bool)) (ones : List ℕ) : Type 0 where
  pub each : (place : ℕ) → place < length ones → get_or ones place 0 ≡ ones_at place values
