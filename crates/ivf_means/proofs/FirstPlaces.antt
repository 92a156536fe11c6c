-- The least and the greatest of some numbers, found one number after the other.
use Rattle.std.proofs.Common.{◌≡◌, ◌⊎◌, refl, sym, ap, ◌∙◌, subst, ℕ, zero, suc, ◌+◌, ◌<◌, ◌≤◌, List, [], ◌∷◌, length, get_or, arith, below_more, inl, inr}
use Rattle.std.specs.Prelude.{Bool, true, false, nat_lt, ◌||◌, if◌then◌else◌}
use Rattle.std.specs.List.{list_any}
use Rattle.std.specs.Prelude.{map}
use Rattle.std.proofs.lemmas.List.{get_or-map}
use Rattle.std.proofs.lemmas.Bool.Decides.{nat_tests}
use Rattle.ivf_means.specs.Places.{least_place, greatest_place}
use Rattle.ivf_means.specs.Working.{IsLeastAt, IsGreatestAt}

-- a function of an element that was read
pub mapped_at : {X : Type 0} (f : X → ℕ) (xs : List X) (i : ℕ) (x : X) (d : ℕ) → i < length xs → x ≡ get_or xs i x → d ≡ f x → get_or (map f xs) i 0 ≡ d
mapped_at f xs i x d h is e = get_or-map f xs i x 0 h ∙ ap f (sym is) ∙ sym e

is_less : (a b : ℕ) → a < b → nat_lt a b ≡ true
is_less a b h = grind (arith, nat_tests)

is_not_less : (a b : ℕ) → b ≤ a → nat_lt a b ≡ false
is_not_less a b h = grind (arith, nat_tests)

less_or_not : (a b : ℕ) → (a < b) ⊎ (b ≤ a)
less_or_not a b = grind arith

some_passes : (test : ℕ → Bool) (xs : List ℕ) (j : ℕ) → j < length xs → test (get_or xs j 0) ≡ true → list_any test xs ≡ true
some_passes test [] j h e = absurd (omega arith)
some_passes test (x ∷ xs) zero h e = ap (λ b. b || list_any test xs) e
some_passes test (x ∷ xs) (suc j) h e = either (test x) (list_any test xs) (some_passes test xs j (omega arith) e)
  where
    either : (a b : Bool) → b ≡ true → (a || b) ≡ true
    either true b q = refl
    either false b q = q

none_passes : (test : ℕ → Bool) (xs : List ℕ) → ((j : ℕ) → j < length xs → test (get_or xs j 0) ≡ false) → list_any test xs ≡ false
none_passes test [] h = refl
none_passes test (x ∷ xs) h = neither (test x) (list_any test xs) (h 0 (omega arith)) (none_passes test xs (λ j within. h (suc j) (omega arith)))
  where
    neither : (a b : Bool) → a ≡ false → b ≡ false → (a || b) ≡ false
    neither true b p q = p
    neither false b p q = q

-- ---- the least

pub least_first : (numbers : List ℕ) (d : ℕ) → get_or numbers 0 0 ≡ d → IsLeastAt numbers 1 0 d
least_first numbers d e = record {
  there = omega arith;
  is = e;
  least = below_more (λ j. d ≤ get_or numbers j 0) 0 (λ j h. absurd (omega arith)) (omega arith);
  first = λ j h. absurd (omega arith);
}

least_lower : (numbers : List ℕ) (n p m d : ℕ) → IsLeastAt numbers n p m → get_or numbers n 0 ≡ d → d < m → IsLeastAt numbers (n + 1) n d
least_lower numbers n p m d so e low = record {
  there = omega arith;
  is = e;
  least = below_more (λ j. d ≤ get_or numbers j 0) n (λ j h. omega (arith, so.least j h)) (omega arith);
  first = λ j h. omega (arith, so.least j h);
}

least_kept : (numbers : List ℕ) (n p m d : ℕ) → IsLeastAt numbers n p m → get_or numbers n 0 ≡ d → m ≤ d → IsLeastAt numbers (n + 1) p m
least_kept numbers n p m d so e high = record {
  there = omega (arith, so.there);
  is = so.is;
  least = below_more (λ j. m ≤ get_or numbers j 0) n so.least (omega arith);
  first = so.first;
}

-- the better of the best so far and of the next
pub least_step : (numbers : List ℕ) (n d : ℕ) (best result : ℕ × ℕ) → IsLeastAt numbers n best.0 best.1 → get_or numbers n 0 ≡ d
    → (best.1 ≤ d → result ≡ best) → (d < best.1 → result ≡ (n, d)) → IsLeastAt numbers (n + 1) result.0 result.1
least_step numbers n d best result so e kept taken = by_test (less_or_not d best.1)
  where
    by_test : ((d < best.1) ⊎ (best.1 ≤ d)) → IsLeastAt numbers (n + 1) result.0 result.1
    by_test (inl low) = subst (λ (r : ℕ × ℕ). IsLeastAt numbers (n + 1) r.0 r.1) (sym (taken low)) (least_lower numbers n best.0 best.1 d so e low)
    by_test (inr high) = subst (λ (r : ℕ × ℕ). IsLeastAt numbers (n + 1) r.0 r.1) (sym (kept high)) (least_kept numbers n best.0 best.1 d so e high)

least_tail : (x : ℕ) (xs : List ℕ) (p m : ℕ) → IsLeastAt (x ∷ xs) (length (x ∷ xs)) (suc p) m → IsLeastAt xs (length xs) p m
least_tail x xs p m so = record {
  there = omega (arith, so.there);
  is = so.is;
  least = λ j h. so.least (suc j) (omega arith);
  first = λ j h. so.first (suc j) (omega arith);
}

pub least_is : (numbers : List ℕ) (p m : ℕ) → IsLeastAt numbers (length numbers) p m → least_place numbers ≡ p
least_is [] p m so = absurd (omega (arith, so.there))
least_is (x ∷ xs) zero m so =
    ap (λ (b : Bool). if b then suc (least_place xs) else 0) (none_passes (λ y. nat_lt y x) xs (λ j h. is_not_less (get_or xs j 0) x (omega (arith, so.is, so.least (suc j) (omega arith)))))
least_is (x ∷ xs) (suc p) m so =
    ap (λ (b : Bool). if b then suc (least_place xs) else 0)
    (some_passes (λ y. nat_lt y x) xs p (omega (arith, so.there)) (is_less (get_or xs p 0) x (omega (arith, so.is, so.first 0 (omega arith)))))
    ∙ ap suc (least_is xs p m (least_tail x xs p m so))

-- ---- the greatest

pub greatest_first : (numbers : List ℕ) (d : ℕ) → get_or numbers 0 0 ≡ d → IsGreatestAt numbers 1 0 d
greatest_first numbers d e = record {
  there = omega arith;
  is = e;
  greatest = below_more (λ j. get_or numbers j 0 ≤ d) 0 (λ j h. absurd (omega arith)) (omega arith);
  first = λ j h. absurd (omega arith);
}

greatest_higher : (numbers : List ℕ) (n p m d : ℕ) → IsGreatestAt numbers n p m → get_or numbers n 0 ≡ d → m < d → IsGreatestAt numbers (n + 1) n d
greatest_higher numbers n p m d so e high = record {
  there = omega arith;
  is = e;
  greatest = below_more (λ j. get_or numbers j 0 ≤ d) n (λ j h. omega (arith, so.greatest j h)) (omega arith);
  first = λ j h. omega (arith, so.greatest j h);
}

greatest_kept : (numbers : List ℕ) (n p m d : ℕ) → IsGreatestAt numbers n p m → get_or numbers n 0 ≡ d → d ≤ m → IsGreatestAt numbers (n + 1) p m
greatest_kept numbers n p m d so e low = record {
  there = omega (arith, so.there);
  is = so.is;
  greatest = below_more (λ j. get_or numbers j 0 ≤ m) n so.greatest (omega arith);
  first = so.first;
}

-- the better of the best so far and of the next
pub greatest_step : (numbers : List ℕ) (n d : ℕ) (best result : ℕ × ℕ) → IsGreatestAt numbers n best.0 best.1 → get_or numbers n 0 ≡ d
    → (d ≤ best.1 → result ≡ best) → (best.1 < d → result ≡ (n, d)) → IsGreatestAt numbers (n + 1) result.0 result.1
greatest_step numbers n d best result so e kept taken = by_test (less_or_not best.1 d)
  where
    by_test : ((best.1 < d) ⊎ (d ≤ best.1)) → IsGreatestAt numbers (n + 1) result.0 result.1
    by_test (inl high) = subst (λ (r : ℕ × ℕ). IsGreatestAt numbers (n + 1) r.0 r.1) (sym (taken high)) (greatest_higher numbers n best.0 best.1 d so e high)
    by_test (inr low) = subst (λ (r : ℕ × ℕ). IsGreatestAt numbers (n + 1) r.0 r.1) (sym (kept low)) (greatest_kept numbers n best.0 best.1 d so e low)

greatest_tail : (x : ℕ) (xs : List ℕ) (p m : ℕ) → IsGreatestAt (x ∷ xs) (length (x ∷ xs)) (suc p) m → IsGreatestAt xs (length xs) p m
greatest_tail x xs p m so = record {
  there = omega (arith, so.there);
  is = so.is;
  greatest = λ j h. so.greatest (suc j) (omega arith);
  first = λ j h. so.first (suc j) (omega arith);
}

pub greatest_is : (numbers : List ℕ) (p m : ℕ) → IsGreatestAt numbers (length numbers) p m → greatest_place numbers ≡ p
greatest_is [] p m so = absurd (omega (arith, so.there))
greatest_is (x ∷ xs) zero m so =
    ap (λ (b : Bool). if b then suc (greatest_place xs) else 0)
    (none_passes (λ y. nat_lt x y) xs (λ j h. is_not_less x (get_or xs j 0) (omega (arith, so.is, so.greatest (suc j) (omega arith)))))
greatest_is (x ∷ xs) (suc p) m so =
    ap (λ (b : Bool). if b then suc (greatest_place xs) else 0)
    (some_passes (λ y. nat_lt x y) xs p (omega (arith, so.there)) (is_less x (get_or xs p 0) (omega (arith, so.is, so.first 0 (omega arith)))))
    ∙ ap suc (greatest_is xs p m (greatest_tail x xs p m so))
