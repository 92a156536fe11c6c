-- The wanted ones are taken, and the others come after them.
use Rattle.std.proofs.Common.{◌≡◌, refl, sym, ap, ◌∙◌, subst, ℕ, ◌+◌, ◌<◌, ◌≤◌, false, List, [], ◌∷◌, ◌++◌, length, take, drop, get_or, arith, zero, suc, append-nil}
use Rattle.std.specs.List.{AllByRecursion}
use Rattle.list_values.specs.Ranking.{placed}
use Rattle.search_sets.specs.declared.key.Key.{Key}
use Rattle.search_sets.specs.Keys.{is_before, in_order}
use Rattle.search_sets.specs.Bests.{IsSplit, NoneBefore, Rise}
use Rattle.search_sets.proofs.Heaps.{all_in_order}
use Rattle.search_sets.proofs.OneOrder.{placed_first}
use Rattle.search_sets.proofs.Splitting.{all_append, in_order_more}
use Rattle.search_sets.proofs.Fronts.{take_more}

pub split_none : (most : ℕ) (best rest : List Key) → 1 ≤ most → best ≡ [] → rest ≡ [] → IsSplit most best rest
split_none most best rest some e f =
    subst (λ (l : List Key). IsSplit most l rest) (sym e)
    (subst (λ (l : List Key). IsSplit most [] l) (sym f) (record { some = some; within = omega arith; rise = tt; below = tt; full = tt }))

pub none_whole : (best rest : List Key) → best ≡ [] → rest ≡ [] → best ++ in_order rest ≡ []
none_whole best rest e f = ap (λ l. l ++ in_order rest) e ∙ ap in_order f

pub put_more : (others : List Key) (i : ℕ) (x : Key) (now old : List Key) → i < length others → x ≡ get_or others i x → now ≡ placed is_before x old → old ≡ in_order (take i others) → now ≡ in_order (take (i + 1) others)
put_more others i x now old within is e f = e ∙ ap (placed is_before x) f ∙ sym (ap in_order (take_more others i x within is) ∙ in_order_more x (take i others))

take_short : (xs : List Key) (n : ℕ) → length xs ≤ n → take n xs ≡ xs
take_short [] zero h = refl
take_short [] (suc n) h = refl
take_short (x ∷ xs) zero h = absurd (omega (arith, h))
take_short (x ∷ xs) (suc n) h = ap (λ l. x ∷ l) (take_short xs n (omega (arith, h)))

drop_short : (xs : List Key) (n : ℕ) → length xs ≤ n → drop n xs ≡ []
drop_short [] zero h = refl
drop_short [] (suc n) h = refl
drop_short (x ∷ xs) zero h = absurd (omega (arith, h))
drop_short (x ∷ xs) (suc n) h = drop_short xs n (omega (arith, h))

take_exact : (xs ys : List Key) (n : ℕ) → length xs ≡ n → take n (xs ++ ys) ≡ xs
take_exact [] ys zero e = refl
take_exact [] ys (suc n) e = absurd (omega (arith, e))
take_exact (x ∷ xs) ys zero e = absurd (omega (arith, e))
take_exact (x ∷ xs) ys (suc n) e = ap (λ l. x ∷ l) (take_exact xs ys n (omega (arith, e)))

drop_exact : (xs ys : List Key) (n : ℕ) → length xs ≡ n → drop n (xs ++ ys) ≡ ys
drop_exact [] ys zero e = refl
drop_exact [] ys (suc n) e = absurd (omega (arith, e))
drop_exact (x ∷ xs) ys zero e = absurd (omega (arith, e))
drop_exact (x ∷ xs) ys (suc n) e = drop_exact xs ys n (omega (arith, e))

pub wanted : (most : ℕ) (best rest : List Key) → IsSplit most best rest → best ≡ take most (best ++ in_order rest)
wanted most best [] s = sym (ap (take most) (append-nil best) ∙ take_short best most s.within)
wanted most best (r ∷ rest) s = sym (take_exact best (in_order (r ∷ rest)) most s.full)

pub unwanted : (most : ℕ) (best rest : List Key) → IsSplit most best rest → in_order rest ≡ drop most (best ++ in_order rest)
unwanted most best [] s = sym (ap (drop most) (append-nil best) ∙ drop_short best most s.within)
unwanted most best (r ∷ rest) s = sym (drop_exact best (in_order (r ∷ rest)) most s.full)

-- both lists in one have the wanted ones first, in order
pub split_in_order : (best rest : List Key) → Rise best → AllByRecursion (λ x. NoneBefore x rest) best → in_order (best ++ rest) ≡ best ++ in_order rest
split_in_order [] rest rise below = refl
split_in_order (x ∷ best) rest rise below =
    ap (placed is_before x) (split_in_order best rest rise.1 below.1)
    ∙ placed_first is_before x (best ++ in_order rest)
    (all_append (λ y. is_before y x ≡ false) best (in_order rest) rise.0 (all_in_order (λ y. is_before y x ≡ false) rest below.0))
