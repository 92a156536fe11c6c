-- How often list pointers name a place.
use Rattle.std.proofs.Common.{◌≡◌, ℕ, zero, suc, ◌+◌, ◌≤◌, ◌==◌, Bool, true, false, cond, List, [], ◌∷◌, ◌++◌, Some, refl, sym, ap, ◌∙◌, arith}
use Rattle.std.specs.Prelude.{slice_get, flat_map}
use Rattle.std.proofs.lemmas.Bool.{eqb-true, eq-eqb}
use Rattle.std.proofs.lemmas.List.Sums.{sum_by-append}
use Rattle.byte_fields.proofs.EachField.{some_is}
use Rattle.vec_names.specs.declared.tid.Tid.{Tid}
use Rattle.vec_names.specs.declared.params.Params.{Params}
use Rattle.vec_names.specs.Places.{same_tid}
use Rattle.page_bytes.specs.Content.{Content, item_at}
use Rattle.graph_pages.specs.Standing.{item_in, pointer_of, pointers_on, pointers, is_place, times_in}
use Rattle.page_redo.proofs.Given.{then_is}

pub times_both : (at : Tid) (xs ys : List Tid) → times_in at (xs ++ ys) ≡ times_in at xs + times_in at ys
times_both at xs ys = sum_by-append (λ t. cond (is_place at t) 1 0) xs ys

-- what an element of a list names is named by the list
pub times_one : {X : Type 0} (f : X → List Tid) (at : Tid) (xs : List X) (i : ℕ) (x : X) → slice_get xs i ≡ Some x
    → times_in at (f x) ≤ times_in at (flat_map f xs)
times_one f at [] i x is = absurd cc
times_one f at (y ∷ ys) zero x is =
    let same : times_in at (f y) ≡ times_in at (f x) = ap (λ z. times_in at (f z)) (some_is y x is) in
    omega (arith, times_both at (f y) (flat_map f ys), same)
times_one f at (y ∷ ys) (suc i) x is = omega (arith, times_both at (f y) (flat_map f ys), times_one f at ys i x is)

-- and two elements name it apart
pub times_two : {X : Type 0} (f : X → List Tid) (at : Tid) (xs : List X) (i j : ℕ) (x y : X) → (i ≡ j → ⊥)
    → slice_get xs i ≡ Some x → slice_get xs j ≡ Some y
    → times_in at (f x) + times_in at (f y) ≤ times_in at (flat_map f xs)
times_two f at [] i j x y apart is also = absurd cc
times_two f at (z ∷ zs) zero zero x y apart is also = absurd (apart refl)
times_two f at (z ∷ zs) zero (suc j) x y apart is also =
    let same : times_in at (f z) ≡ times_in at (f x) = ap (λ w. times_in at (f w)) (some_is z x is) in
    omega (arith, times_both at (f z) (flat_map f zs), same, times_one f at zs j y also)
times_two f at (z ∷ zs) (suc i) zero x y apart is also =
    let same : times_in at (f z) ≡ times_in at (f y) = ap (λ w. times_in at (f w)) (some_is z y also) in
    omega (arith, times_both at (f z) (flat_map f zs), same, times_one f at zs i x is)
times_two f at (z ∷ zs) (suc i) (suc j) x y apart is also =
    omega (arith, times_both at (f z) (flat_map f zs), times_two f at zs i j x y (λ e. apart (ap (λ n. suc n) e)) is also)

-- ---- the items of pages

item_one : (f : List ℕ → List Tid) (at : Tid) (items : List (List ℕ)) (off : ℕ) (x : List ℕ) → item_at items off ≡ Some x
    → times_in at (f x) ≤ times_in at (flat_map f items)
item_one f at items zero x is = absurd cc
item_one f at items (suc i) x is = times_one f at items i x is

item_two : (f : List ℕ → List Tid) (at : Tid) (items : List (List ℕ)) (a b : ℕ) (x y : List ℕ) → (a ≡ b → ⊥)
    → item_at items a ≡ Some x → item_at items b ≡ Some y
    → times_in at (f x) + times_in at (f y) ≤ times_in at (flat_map f items)
item_two f at items zero b x y apart is also = absurd cc
item_two f at items (suc a) zero x y apart is also = absurd cc
item_two f at items (suc a) (suc b) x y apart is also = times_two f at items a b x y (λ e. apart (ap (λ n. suc n) e)) is also

-- an item names a place no more often than all do
pub named_here : (p : Params) (pages : List Content) (at a : Tid) (x : List ℕ) → item_in pages a ≡ Some x
    → times_in at (pointer_of p x) ≤ times_in at (pointers p pages)
named_here p pages at a x is =
    let here = then_is (λ (c : Content). item_at c.items a.off) (slice_get pages a.block) x is in
    let on_page : times_in at (pointer_of p x) ≤ times_in at (pointers_on p here.0) = item_one (pointer_of p) at here.0.items a.off x here.2 in
    let in_all : times_in at (pointers_on p here.0) ≤ times_in at (pointers p pages) = times_one (pointers_on p) at pages a.block here.0 here.1 in
    omega (arith, on_page, in_all)

-- two items that name a place stand at one place, where it is named once
pub named_once : (p : Params) (pages : List Content) (at a b : Tid) (x y : List ℕ) → times_in at (pointers p pages) ≡ 1
    → item_in pages a ≡ Some x → item_in pages b ≡ Some y
    → 1 ≤ times_in at (pointer_of p x) → 1 ≤ times_in at (pointer_of p y) → a ≡ b
named_once p pages at a b x y once is also one two = by_block (a.block == b.block) refl
  where
    here : (c : Content) × (slice_get pages a.block ≡ Some c) × (item_at c.items a.off ≡ Some x)
    here = then_is (λ (c : Content). item_at c.items a.off) (slice_get pages a.block) x is

    there : (c : Content) × (slice_get pages b.block ≡ Some c) × (item_at c.items b.off ≡ Some y)
    there = then_is (λ (c : Content). item_at c.items b.off) (slice_get pages b.block) y also

    by_off : a.block ≡ b.block → (test : Bool) → (a.off == b.off) ≡ test → a ≡ b
    by_off same true e = same_tid a b same (eqb-true a.off b.off e)
    by_off same false e =
        let page : here.0 ≡ there.0 = some_is here.0 there.0 (sym here.1 ∙ ap (slice_get pages) same ∙ there.1) in
        let second : item_at here.0.items b.off ≡ Some y = ap (λ (c : Content). item_at c.items b.off) page ∙ there.2 in
        let on_page : times_in at (pointer_of p x) + times_in at (pointer_of p y) ≤ times_in at (pointers_on p here.0) =
        item_two (pointer_of p) at here.0.items a.off b.off x y (λ f. let t = eq-eqb a.off b.off f in absurd cc) here.2 second in
        let in_all : times_in at (pointers_on p here.0) ≤ times_in at (pointers p pages) = times_one (pointers_on p) at pages a.block here.0 here.1 in
        absurd (omega (arith, once, one, two, on_page, in_all))

    by_block : (test : Bool) → (a.block == b.block) ≡ test → a ≡ b
    by_block true e = by_off (eqb-true a.block b.block e) (a.off == b.off) refl
    by_block false e =
        let in_all : times_in at (pointers_on p here.0) + times_in at (pointers_on p there.0) ≤ times_in at (pointers p pages) =
        times_two (pointers_on p) at pages a.block b.block here.0 there.0 (λ f. let t = eq-eqb a.block b.block f in absurd cc) here.1 there.1 in
        let first : times_in at (pointer_of p x) ≤ times_in at (pointers_on p here.0) = item_one (pointer_of p) at here.0.items a.off x here.2 in
        let second : times_in at (pointer_of p y) ≤ times_in at (pointers_on p there.0) = item_one (pointer_of p) at there.0.items b.off y there.2 in
        absurd (omega (arith, once, one, two, first, second, in_all))
