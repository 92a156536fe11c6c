-- What an answer that is there came from, and small tests.
use Rattle.std.proofs.Common.{◌≡◌, ℕ, ◌||◌, ◌==◌, Bool, true, false, List, [], ◌∷◌, map, refl, ap, ap₂}
use Rattle.std.proofs.lemmas.Bool.{eq-eqb}
use Rattle.ivf_pages.specs.Standing.{is_among}

pub or_parts_of : (a b : Bool) → (a || b) ≡ true → a ≡ false → b ≡ true
or_parts_of true b is other = absurd cc
or_parts_of false b is other = is

-- the same on the numbers of the list
pub map_same_on : {B : Type 0} (f g : ℕ → B) (xs : List ℕ) → ((x : ℕ) → is_among x xs ≡ true → f x ≡ g x) → map f xs ≡ map g xs
map_same_on f g [] same = refl
map_same_on f g (x ∷ xs) same =
    ap₂ (λ y ys. y ∷ ys) (same x (ap (λ (b : Bool). b || is_among x xs) (eq-eqb x x refl)))
    (map_same_on f g xs (λ y within. same y (either (x == y) (is_among y xs) within)))
  where
    either : (a b : Bool) → b ≡ true → (a || b) ≡ true
    either true b is = refl
    either false b is = is
