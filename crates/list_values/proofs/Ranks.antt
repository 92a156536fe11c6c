-- What a stable sort gives is `ranked`.
use Rattle.std.proofs.Common.{◌≡◌, refl, sym, ap, ◌∙◌, subst, ℕ, zero, suc, ◌+◌, ◌<◌, List, [], ◌∷◌, length, get_or, slice_get, Some, arith, filter}
use Rattle.std.proofs.lemmas.Option.{same_Some, none-some}
use Rattle.std.specs.Prelude.{Bool, true, false, not, ◌&&◌, cond, if◌then◌else◌}
use Rattle.std.specs.Cmp.{IsStrictWeakOrder}
use Rattle.std.specs.List.Sorted.{IsSortedBy, IsStableBy, ties}
use Rattle.std.proofs.lemmas.List.Sorted.{sorted_far}
use Rattle.list_values.specs.Ranking.{placed, ranked}

-- no element of the list is less than x
abbrev pub NoneLess : {X : Type 0} → (X → X → Bool) → X → List X → Type 0
NoneLess lt x [] = Unit {0}
NoneLess lt x (y ∷ ys) = (lt y x ≡ false) × NoneLess lt x ys

-- no element is less than one before it
abbrev pub Rises : {X : Type 0} → (X → X → Bool) → List X → Type 0
Rises lt [] = Unit {0}
Rises lt (x ∷ xs) = NoneLess lt x xs × Rises lt xs

none_less_from : {X : Type 0} (lt : X → X → Bool) (x : X) (xs : List X) → ((k : ℕ) → k < length xs → lt (get_or xs k x) x ≡ false) → NoneLess lt x xs
none_less_from lt x [] h = tt
none_less_from lt x (y ∷ ys) h = (h 0 (omega arith), none_less_from lt x ys (λ k within. h (suc k) (omega (arith, within))))

sorted_tail : {X : Type 0} (lt : X → X → Bool) (x : X) (xs : List X) → IsSortedBy lt (x ∷ xs) → IsSortedBy lt xs
sorted_tail {X} lt x xs up k d low high =
    let next : suc k + 1 ≡ suc (k + 1) = omega arith in
    subst (λ (j : ℕ). lt (get_or (x ∷ xs) j d) (get_or xs k d) ≡ false) next (up (suc k) d (omega arith) (omega (arith, high)))

rises_from : {X : Type 0} (lt : X → X → Bool) → IsStrictWeakOrder lt → (xs : List X) → IsSortedBy lt xs → Rises lt xs
rises_from lt o [] up = tt
rises_from lt o (x ∷ xs) up = (
  none_less_from lt x xs (λ k within. sorted_far lt o (x ∷ xs) up 0 (suc k) x (omega arith) (omega (arith, within))),
  rises_from lt o xs (sorted_tail lt x xs up),
)

-- ---- lists in order with the same ties are one

not_both : (b : Bool) → b ≡ true → b ≡ false → ⊥
not_both b p q = let e : true ≡ false = sym p ∙ q in absurd (cc)

-- each element ties with itself
ties_itself : {X : Type 0} (lt : X → X → Bool) → IsStrictWeakOrder lt → (x : X) → ties lt x x ≡ true
ties_itself lt o x = by_test (lt x x) refl
  where
    by_test : (b : Bool) → lt x x ≡ b → ties lt x x ≡ true
    by_test true is = absurd (not_both (lt x x) is (o.one_way x x is))
    by_test false is = subst (λ (b : Bool). (not b && not b) ≡ true) (sym is) refl

-- what ties is not less, and nothing less
ties_not_less : {X : Type 0} (lt : X → X → Bool) (x y : X) → ties lt x y ≡ true → lt x y ≡ false
ties_not_less lt x y h = by_test (lt x y) (not (lt y x)) h
  where
    by_test : (b c : Bool) → (not b && c) ≡ true → b ≡ false
    by_test false c h = refl
    by_test true c h = absurd (cc)

ties_not_greater : {X : Type 0} (lt : X → X → Bool) (x y : X) → ties lt x y ≡ true → lt y x ≡ false
ties_not_greater lt x y h = by_test (not (lt x y)) (lt y x) h
  where
    by_test : (b c : Bool) → (b && not c) ≡ true → c ≡ false
    by_test b false h = refl
    by_test true true h = absurd (cc)
    by_test false true h = absurd (cc)

-- where something ties with v, v is not less than what nothing is less than
least_of : {X : Type 0} (lt : X → X → Bool) → IsStrictWeakOrder lt → (u v y : X) (xs ys : List X) → NoneLess lt u xs → filter (ties lt v) xs ≡ y ∷ ys → lt v u ≡ false
least_of lt o u v y [] ys none is = absurd (cc)
least_of lt o u v y (x ∷ xs) ys none is = by_test (ties lt v x) refl (least_of lt o u v y xs ys none.1)
  where
    by_test : (b : Bool) → ties lt v x ≡ b → (filter (ties lt v) xs ≡ y ∷ ys → lt v u ≡ false) → lt v u ≡ false
    by_test true tied further = o.chain v x u (ties_not_less lt v x tied) none.0
    by_test false apart further = further (subst (λ (b : Bool). cond b (x ∷ filter (ties lt v) xs) (filter (ties lt v) xs) ≡ y ∷ ys) apart is)

filter_first : {X : Type 0} (p : X → Bool) (x : X) (xs : List X) → p x ≡ true → filter p (x ∷ xs) ≡ x ∷ filter p xs
filter_first p x xs h = ap (λ (b : Bool). cond b (x ∷ filter p xs) (filter p xs)) h

filter_next : {X : Type 0} (p : X → Bool) (x : X) (xs : List X) → p x ≡ false → filter p (x ∷ xs) ≡ filter p xs
filter_next p x xs h = ap (λ (b : Bool). cond b (x ∷ filter p xs) (filter p xs)) h

-- neither of two first elements is less
ties_heads : {X : Type 0} (lt : X → X → Bool) → IsStrictWeakOrder lt → (u v : X) (us vs : List X) → NoneLess lt u us
    → filter (ties lt v) (u ∷ us) ≡ filter (ties lt v) (v ∷ vs) → lt v u ≡ false
ties_heads lt o u v us vs rises same =
    least_of lt o u v v (u ∷ us) (filter (ties lt v) vs) (ties_not_less lt u u (ties_itself lt o u), rises)
    (same ∙ filter_first (ties lt v) v vs (ties_itself lt o v))

both_false : (b c : Bool) → b ≡ false → c ≡ false → (not b && not c) ≡ true
both_false true c p q = absurd (cc)
both_false false true p q = absurd (cc)
both_false false false p q = refl

same_rest : {X : Type 0} (lt : X → X → Bool) (x : X) (us vs : List X) (z : X) → filter (ties lt z) (x ∷ us) ≡ filter (ties lt z) (x ∷ vs) → filter (ties lt z) us ≡ filter (ties lt z) vs
same_rest lt x us vs z same = by_test (ties lt z x) refl
  where
    by_test : (b : Bool) → ties lt z x ≡ b → filter (ties lt z) us ≡ filter (ties lt z) vs
    by_test true is = let e : x ∷ filter (ties lt z) us ≡ x ∷ filter (ties lt z) vs = sym (filter_first (ties lt z) x us is) ∙ same ∙ filter_first (ties lt z) x vs is in cc
    by_test false is = sym (filter_next (ties lt z) x us is) ∙ same ∙ filter_next (ties lt z) x vs is

one_order : {X : Type 0} (lt : X → X → Bool) → IsStrictWeakOrder lt → (us vs : List X) → Rises lt us → Rises lt vs → ((z : X) → filter (ties lt z) us ≡ filter (ties lt z) vs) → us ≡ vs
one_order lt o [] [] ru rv same = refl
one_order lt o [] (v ∷ vs) ru rv same = absurd (let e : [] ≡ v ∷ filter (ties lt v) vs = same v ∙ filter_first (ties lt v) v vs (ties_itself lt o v) in cc)
one_order lt o (u ∷ us) [] ru rv same = absurd (let e : u ∷ filter (ties lt u) us ≡ [] = sym (filter_first (ties lt u) u us (ties_itself lt o u)) ∙ same u in cc)
one_order {X} lt o (u ∷ us) (v ∷ vs) ru rv same =
    let vu : lt v u ≡ false = ties_heads lt o u v us vs ru.0 (same v) in
    let uv : lt u v ≡ false = ties_heads lt o v u vs us rv.0 (sym (same u)) in
    let tied : ties lt u v ≡ true = both_false (lt u v) (lt v u) uv vu in
    let firsts : u ∷ filter (ties lt u) us ≡ v ∷ filter (ties lt u) vs = sym (filter_first (ties lt u) u us (ties_itself lt o u)) ∙ same u ∙ filter_first (ties lt u) v vs tied in
    let head : u ≡ v = cc in
    let rest : us ≡ vs = one_order lt o us vs ru.1 rv.1 (λ z. same_rest lt u us vs z (same z ∙ ap (λ (x : X). filter (ties lt z) (x ∷ vs)) (sym head))) in
    cc

-- ---- `ranked` is in order, and keeps the ties

none_less_placed : {X : Type 0} (lt : X → X → Bool) (x y : X) (ys : List X) → lt x y ≡ false → NoneLess lt y ys → NoneLess lt y (placed lt x ys)
none_less_placed lt x y [] h none = (h, tt)
none_less_placed lt x y (z ∷ zs) h none = by_test (lt z x) (none_less_placed lt x y zs h none.1)
  where
    by_test : (b : Bool) → NoneLess lt y (placed lt x zs) → NoneLess lt y (if b then z ∷ placed lt x zs else x ∷ z ∷ zs)
    by_test true further = (none.0, further)
    by_test false further = (h, none)

none_less_through : {X : Type 0} (lt : X → X → Bool) → IsStrictWeakOrder lt → (x y : X) (ys : List X) → lt y x ≡ false → NoneLess lt y ys → NoneLess lt x ys
none_less_through lt o x y [] h none = tt
none_less_through lt o x y (z ∷ zs) h none = (o.chain z y x none.0 h, none_less_through lt o x y zs h none.1)

rises_placed : {X : Type 0} (lt : X → X → Bool) → IsStrictWeakOrder lt → (x : X) (ys : List X) → Rises lt ys → Rises lt (placed lt x ys)
rises_placed lt o x [] rises = (tt, tt)
rises_placed lt o x (y ∷ ys) rises = by_test (lt y x) refl (rises_placed lt o x ys rises.1)
  where
    by_test : (b : Bool) → lt y x ≡ b → Rises lt (placed lt x ys) → Rises lt (if b then y ∷ placed lt x ys else x ∷ y ∷ ys)
    by_test true less further = (none_less_placed lt x y ys (o.one_way y x less) rises.0, further)
    by_test false not_less further = ((not_less, none_less_through lt o x y ys not_less rises.0), rises)

pub rises_ranked : {X : Type 0} (lt : X → X → Bool) → IsStrictWeakOrder lt → (xs : List X) → Rises lt (ranked lt xs)
rises_ranked lt o [] = tt
rises_ranked lt o (x ∷ xs) = rises_placed lt o x (ranked lt xs) (rises_ranked lt o xs)

none_less_at : {X : Type 0} (lt : X → X → Bool) (x : X) (xs : List X) (i : ℕ) (y : X) → NoneLess lt x xs → slice_get xs i ≡ Some y → lt y x ≡ false
none_less_at lt x [] i y none is = absurd (none-some y is)
none_less_at lt x (z ∷ zs) zero y none is = subst (λ (w : _). lt w x ≡ false) (same_Some z y is) none.0
none_less_at lt x (z ∷ zs) (suc i) y none is = none_less_at lt x zs i y none.1 is

-- in such a list no element is less than one before it
pub rises_at : {X : Type 0} (lt : X → X → Bool) (xs : List X) (i j : ℕ) (x y : X) → Rises lt xs → i < j → slice_get xs i ≡ Some x → slice_get xs j ≡ Some y → lt y x ≡ false
rises_at lt [] i j x y r h a b = absurd (none-some x a)
rises_at lt (z ∷ zs) zero zero x y r h a b = absurd (omega arith)
rises_at lt (z ∷ zs) zero (suc j) x y r h a b = subst (λ (w : _). lt y w ≡ false) (same_Some z x a) (none_less_at lt z zs j y r.0 b)
rises_at lt (z ∷ zs) (suc i) zero x y r h a b = absurd (omega (arith, h))
rises_at lt (z ∷ zs) (suc i) (suc j) x y r h a b = rises_at lt zs i j x y r.1 (omega (arith, h)) a b

-- an element that ties with z is not passed by one that does
ties_placed : {X : Type 0} (lt : X → X → Bool) → IsStrictWeakOrder lt → (z x : X) (ys : List X) → filter (ties lt z) (placed lt x ys) ≡ filter (ties lt z) (x ∷ ys)
ties_placed lt o z x [] = refl
ties_placed {X} lt o z x (y ∷ ys) = by_test (lt y x) refl (ties_placed lt o z x ys)
  where
    swapped : lt y x ≡ true → (b c : Bool) → ties lt z x ≡ b → ties lt z y ≡ c
        → cond c (y ∷ cond b (x ∷ filter (ties lt z) ys) (filter (ties lt z) ys)) (cond b (x ∷ filter (ties lt z) ys) (filter (ties lt z) ys))
        ≡ cond b (x ∷ cond c (y ∷ filter (ties lt z) ys) (filter (ties lt z) ys)) (cond c (y ∷ filter (ties lt z) ys) (filter (ties lt z) ys))
    swapped less true true tx ty = absurd (not_both (lt y x) less (o.chain y z x (ties_not_greater lt z y ty) (ties_not_less lt z x tx)))
    swapped less true false tx ty = refl
    swapped less false true tx ty = refl
    swapped less false false tx ty = refl

    by_test : (b : Bool) → lt y x ≡ b → filter (ties lt z) (placed lt x ys) ≡ filter (ties lt z) (x ∷ ys) → filter (ties lt z) (if b then y ∷ placed lt x ys else x ∷ y ∷ ys) ≡ filter (ties lt z) (x ∷ y ∷ ys)
    by_test true less further =
        ap (λ (l : List X). cond (ties lt z y) (y ∷ l) l) further ∙ swapped less (ties lt z x) (ties lt z y) refl refl
    by_test false not_less further = refl

ties_ranked : {X : Type 0} (lt : X → X → Bool) → IsStrictWeakOrder lt → (z : X) (xs : List X) → filter (ties lt z) (ranked lt xs) ≡ filter (ties lt z) xs
ties_ranked lt o z [] = refl
ties_ranked {X} lt o z (x ∷ xs) = ties_placed lt o z x (ranked lt xs) ∙ ap (λ (l : List X). cond (ties lt z x) (x ∷ l) l) (ties_ranked lt o z xs)

-- what is in order, and keeps the ties, is `ranked`
pub ranked_is : {X : Type 0} (lt : X → X → Bool) → IsStrictWeakOrder lt → (xs ys : List X) → IsSortedBy lt ys → IsStableBy lt xs ys → ys ≡ ranked lt xs
ranked_is lt o xs ys up stable = one_order lt o ys (ranked lt xs) (rises_from lt o ys up) (rises_ranked lt o xs) (λ z. stable z ∙ sym (ties_ranked lt o z xs))
