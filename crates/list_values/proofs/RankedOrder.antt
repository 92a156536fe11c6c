-- What `ranked` gives is in order, and has the elements that it was given.
use Rattle.std.proofs.Common.{◌≡◌, refl, ap, ◌∙◌, subst, ℕ, zero, suc, ◌+◌, List, [], ◌∷◌, map, get_or, arith}
use Rattle.std.specs.Prelude.{Bool, true, false, if◌then◌else◌}
use Rattle.std.specs.Cmp.{IsStrictWeakOrder}
use Rattle.std.specs.List.Sorted.{IsPermutation, IsSortedBy}
use Rattle.std.proofs.lemmas.List.Sorted.{IsPermutation-refl, IsPermutation-trans, IsPermutation-cons, IsPermutation-swap}
use Rattle.list_values.specs.Ranking.{placed, ranked}
use Rattle.list_values.proofs.Ranks.{NoneLess, Rises, rises_ranked}

-- ---- order

pub sorted_from_rises : {X : Type 0} (lt : X → X → Bool) (xs : List X) → Rises lt xs → IsSortedBy lt xs
sorted_from_rises lt [] r k d low high = absurd (omega arith)
sorted_from_rises lt (x ∷ []) r k d low high = absurd (omega arith)
sorted_from_rises lt (x ∷ y ∷ ys) r zero d low high = r.0.0
sorted_from_rises lt (x ∷ y ∷ ys) r (suc k) d low high =
    let next : suc (k + 1) ≡ suc k + 1 = omega arith in
    subst (λ (j : ℕ). lt (get_or (x ∷ y ∷ ys) j d) (get_or (y ∷ ys) k d) ≡ false) next
    (sorted_from_rises lt (y ∷ ys) r.1 k d (omega arith) (omega (arith, high)))

pub sorted_ranked : {X : Type 0} (lt : X → X → Bool) → IsStrictWeakOrder lt → (xs : List X) → IsSortedBy lt (ranked lt xs)
sorted_ranked lt o xs = sorted_from_rises lt (ranked lt xs) (rises_ranked lt o xs)

-- ---- another test, of what a function makes of the elements

none_less-map : {X Y : Type 0} (lt : X → X → Bool) (less : Y → Y → Bool) (f : X → Y) → ((a b : X) → lt a b ≡ false → less (f a) (f b) ≡ false)
    → (x : X) (xs : List X) → NoneLess lt x xs → NoneLess less (f x) (map f xs)
none_less-map lt less f coarser x [] r = tt
none_less-map lt less f coarser x (y ∷ ys) r = (coarser y x r.0, none_less-map lt less f coarser x ys r.1)

pub rises-map : {X Y : Type 0} (lt : X → X → Bool) (less : Y → Y → Bool) (f : X → Y) → ((a b : X) → lt a b ≡ false → less (f a) (f b) ≡ false)
    → (xs : List X) → Rises lt xs → Rises less (map f xs)
rises-map lt less f coarser [] r = tt
rises-map lt less f coarser (x ∷ xs) r = (none_less-map lt less f coarser x xs r.0, rises-map lt less f coarser xs r.1)

-- ---- elements

two_swapped : {X : Type 0} (x y : X) (ys : List X) → IsPermutation (x ∷ y ∷ ys) (y ∷ x ∷ ys)
two_swapped x y ys = IsPermutation-swap (x ∷ y ∷ ys) (y ∷ x ∷ ys) 0 1 (omega arith) (omega arith) refl

pub placed_permutes : {X : Type 0} (lt : X → X → Bool) (x : X) (ys : List X) → IsPermutation (x ∷ ys) (placed lt x ys)
placed_permutes lt x [] = IsPermutation-refl (x ∷ [])
placed_permutes {X} lt x (y ∷ ys) = by_test (lt y x) (placed_permutes lt x ys)
  where
    by_test : (b : Bool) → IsPermutation (x ∷ ys) (placed lt x ys) → IsPermutation (x ∷ y ∷ ys) (if b then y ∷ placed lt x ys else x ∷ y ∷ ys)
    by_test true further = IsPermutation-trans (x ∷ y ∷ ys) (y ∷ x ∷ ys) (y ∷ placed lt x ys) (two_swapped x y ys) (IsPermutation-cons y (x ∷ ys) (placed lt x ys) further)
    by_test false further = IsPermutation-refl (x ∷ y ∷ ys)

pub ranked_permutes : {X : Type 0} (lt : X → X → Bool) (xs : List X) → IsPermutation xs (ranked lt xs)
ranked_permutes lt [] = IsPermutation-refl []
ranked_permutes lt (x ∷ xs) =
    IsPermutation-trans (x ∷ xs) (x ∷ ranked lt xs) (placed lt x (ranked lt xs)) (IsPermutation-cons x xs (ranked lt xs) (ranked_permutes lt xs))
    (placed_permutes lt x (ranked lt xs))

-- ---- maps

placed-map : {X Y : Type 0} (f : X → Y) (less : Y → Y → Bool) (x : X) (ys : List X) → placed less (f x) (map f ys) ≡ map f (placed (λ a b. less (f a) (f b)) x ys)
placed-map f less x [] = refl
placed-map {X} f less x (y ∷ ys) = by_test (less (f y) (f x)) (placed-map f less x ys)
  where
    by_test : (b : Bool) → placed less (f x) (map f ys) ≡ map f (placed (λ a b. less (f a) (f b)) x ys)
        → (if b then f y ∷ placed less (f x) (map f ys) else f x ∷ f y ∷ map f ys) ≡ map f (if b then y ∷ placed (λ a b. less (f a) (f b)) x ys else x ∷ y ∷ ys)
    by_test true further = ap (λ l. f y ∷ l) further
    by_test false further = refl

pub ranked-map : {X Y : Type 0} (f : X → Y) (less : Y → Y → Bool) (xs : List X) → ranked less (map f xs) ≡ map f (ranked (λ a b. less (f a) (f b)) xs)
ranked-map f less [] = refl
ranked-map f less (x ∷ xs) = ap (placed less (f x)) (ranked-map f less xs) ∙ placed-map f less x (ranked (λ a b. less (f a) (f b)) xs)
