-- Where a list of numbers has its least and its greatest one: of equal ones the first.
use Rattle.std.specs.Prelude.{ℕ, suc, nat_lt, if◌then◌else◌, List, [], ◌∷◌}
use Rattle.std.specs.List.{list_any}

-- the first element than which none behind it is less; 0 of no elements
abbrev pub least_place : List ℕ → ℕ
least_place [] = 0
least_place (x ∷ xs) = if list_any (λ y. nat_lt y x) xs then suc (least_place xs) else 0

-- the first element than which none behind it is greater; 0 of no elements
abbrev pub greatest_place : List ℕ → ℕ
greatest_place [] = 0
greatest_place (x ∷ xs) = if list_any (λ y. nat_lt x y) xs then suc (greatest_place xs) else 0
