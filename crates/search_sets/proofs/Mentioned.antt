-- The places of slots, as they are named one after the other.
use Rattle.std.proofs.Common.{◌≡◌, ℕ, ◌+◌, ◌<◌, ◌||◌, Bool, true, false, cond, List, [], ◌∷◌, ◌++◌, Option, Some, None, refl, sym, ap, ap₂, ◌∙◌, append_assoc, length, get_or, drop}
use Rattle.std.specs.Ordering.{eq_by_cmp}
use Rattle.std.specs.Cmp.{Equal-is}
use Rattle.std.specs.FinSet as set
use Rattle.vec_names.specs.declared.tid.Tid.{Tid}
use Rattle.vec_names.specs.Order.{tid_cmp, tid_cmp_total}
use Rattle.graph_search.specs.Search.{filled, is_among}
use Rattle.graph_search.specs.ByHolding.{unnamed}
use Rattle.search_sets.specs.Naming.{named_by, new_by}
use Rattle.search_sets.proofs.Fronts.{drop_next}

pub unnamed_same : (p q : Tid → Bool) → ((at : Tid) → p at ≡ q at) → (places : List Tid) → unnamed p places ≡ unnamed q places
unnamed_same p q same [] = refl
unnamed_same p q same (at ∷ places) =
    let p_more : Tid → Bool = λ other. p other || is_among (at ∷ []) other in
    let q_more : Tid → Bool = λ other. q other || is_among (at ∷ []) other in
    ap (λ (b : Bool). cond b (unnamed p places) (at ∷ unnamed p_more places)) (same at)
    ∙ ap₂ (λ (x y : List Tid). cond (q at) x (at ∷ y)) (unnamed_same p q same places)
    (unnamed_same p_more q_more (λ other. ap (λ (b : Bool). b || is_among (at ∷ []) other) (same other)) places)

or_turned : (a b : Bool) → (a || b) ≡ (b || (a || false))
or_turned true true = refl
or_turned true false = refl
or_turned false true = refl
or_turned false false = refl

pub inserted : (s : set.FinSet tid_cmp) (at q : Tid) → set.contains (set.insert s at) q ≡ (set.contains s q || is_among (at ∷ []) q)
inserted s at q = set.contains-insert tid_cmp_total s at q ∙ or_turned (eq_by_cmp tid_cmp q at) (set.contains s q)

or_itself : (a : Bool) → a ≡ (a || false)
or_itself true = refl
or_itself false = refl

pub named_one : (s : set.FinSet tid_cmp) (slot : Option Tid) (q : Tid)
    → set.contains (named_by slot s) q ≡ (set.contains s q || is_among (filled (slot ∷ [])) q)
named_one s None q = or_itself (set.contains s q)
named_one s (Some at) q = inserted s at q

-- a place that was named before adds nothing
already : (s : set.FinSet tid_cmp) (at : Tid) → set.contains s at ≡ true → (places : List Tid)
    → unnamed (set.contains (set.insert s at)) places ≡ unnamed (set.contains s) places
already s at there places = unnamed_same (set.contains (set.insert s at)) (set.contains s) same places
  where
    same : (q : Tid) → set.contains (set.insert s at) q ≡ set.contains s q
    same q = set.contains-insert tid_cmp_total s at q ∙ by_test (eq_by_cmp tid_cmp q at) refl
      where
        by_test : (b : Bool) → eq_by_cmp tid_cmp q at ≡ b → (b || set.contains s q) ≡ set.contains s q
        by_test true is = sym there ∙ set.contains_tied tid_cmp_total s q at ((Equal-is (tid_cmp q at)).0 is)
        by_test false is = refl

pub new_one : (s : set.FinSet tid_cmp) (slot : Option Tid) (rest : List (Option Tid))
    → new_by slot s ++ unnamed (set.contains (named_by slot s)) (filled rest) ≡ unnamed (set.contains s) (filled (slot ∷ rest))
new_one s None rest = refl
new_one s (Some at) rest = by_test (set.contains s at) refl
  where
    by_test : (b : Bool) → set.contains s at ≡ b → cond b [] (at ∷ []) ++ unnamed (set.contains (set.insert s at)) (filled rest)
        ≡ cond b (unnamed (set.contains s) (filled rest)) (at ∷ unnamed (λ other. set.contains s other || is_among (at ∷ []) other) (filled rest))
    by_test true there = already s at there (filled rest)
    by_test false new =
        ap (λ (l : List Tid). at ∷ l)
        (unnamed_same (set.contains (set.insert s at)) (λ other. set.contains s other || is_among (at ∷ []) other) (inserted s at) (filled rest))

or_moved : (a b c : Bool) → ((a || (b || false)) || c) ≡ (a || (b || c))
or_moved true b c = refl
or_moved false true c = refl
or_moved false false c = refl

one_then : (s : set.FinSet tid_cmp) (slot : Option Tid) (rest : List (Option Tid)) (q : Tid)
    → (set.contains (named_by slot s) q || is_among (filled rest) q) ≡ (set.contains s q || is_among (filled (slot ∷ rest)) q)
one_then s None rest q = refl
one_then s (Some at) rest q =
    ap (λ (b : Bool). b || is_among (filled rest) q) (inserted s at q) ∙ or_moved (set.contains s q) (eq_by_cmp tid_cmp q at) (is_among (filled rest) q)

-- one slot more
module _ (slots : List (Option Tid)) (i : ℕ) (slot : Option Tid) (within : i < length slots) (is : slot ≡ get_or slots i slot)
    (s t : set.FinSet tid_cmp) (now : t ≡ named_by slot s) where
  pub names_next : (q : Tid) → (set.contains t q || is_among (filled (drop (i + 1) slots)) q) ≡ (set.contains s q || is_among (filled (drop i slots)) q)
  names_next q =
      ap (λ (z : set.FinSet tid_cmp). set.contains z q || is_among (filled (drop (i + 1) slots)) q) now
      ∙ one_then s slot (drop (i + 1) slots) q
      ∙ ap (λ (l : List (Option Tid)). set.contains s q || is_among (filled l) q) (sym (drop_next slots i slot within is))

  pub fresh_next : (fresh more : List Tid) → more ≡ fresh ++ new_by slot s
      → more ++ unnamed (set.contains t) (filled (drop (i + 1) slots)) ≡ fresh ++ unnamed (set.contains s) (filled (drop i slots))
  fresh_next fresh more are =
      ap₂ (λ (l : List Tid) (z : set.FinSet tid_cmp). l ++ unnamed (set.contains z) (filled (drop (i + 1) slots))) are now
      ∙ append_assoc fresh (new_by slot s) (unnamed (set.contains (named_by slot s)) (filled (drop (i + 1) slots)))
      ∙ ap (λ (l : List Tid). fresh ++ l) (new_one s slot (drop (i + 1) slots)
      ∙ ap (λ (l : List (Option Tid)). unnamed (set.contains s) (filled l)) (sym (drop_next slots i slot within is)))
