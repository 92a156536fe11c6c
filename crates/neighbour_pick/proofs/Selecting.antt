-- What selection gives.
use Rattle.std.proofs.Common.{◌≡◌, ◌⊎◌, inl, inr, ℕ, zero, suc, ◌+◌, ◌<◌, min, Bool, true, false, List, [], ◌∷◌, ◌++◌, length, slice_get, Some, refl, sym, ap, subst, ◌∙◌, arith}
use Rattle.list_values.proofs.Parts.{in_whole}
use Rattle.std.proofs.lemmas.Option.{same_Some, none-some}
use Rattle.std.proofs.lemmas.List.{length-append, length-take}
use Rattle.vec_names.specs.declared.params.Ops.{Ops}
use Rattle.neighbour_pick.specs.Order.{Candidate}
use Rattle.neighbour_pick.specs.Selection.{is_far, with_far, far_marks, set_places, clear_places, picked}

marks_long : (ops : Ops) (others cs : List Candidate) → length (far_marks ops others cs) ≡ length cs
marks_long ops others [] = refl
marks_long ops others (c ∷ cs) = ap (λ (n : ℕ). suc n) (marks_long ops (with_far (is_far ops others c) others c) cs)

places_long : (k : ℕ) (marks : List Bool) → length (set_places k marks ++ clear_places k marks) ≡ length marks
places_long k [] = refl
places_long k (true ∷ marks) = ap (λ (n : ℕ). suc n) (places_long (suc k) marks)
places_long k (false ∷ marks) =
    omega (
      arith,
      places_long (suc k) marks,
      length-append (set_places (suc k) marks) (clear_places (suc k) marks),
      length-append (set_places (suc k) marks) (k ∷ clear_places (suc k) marks),
    )

pub picks_long : (ops : Ops) (cs : List Candidate) (count : ℕ) → length (picked ops cs count) ≡ min count (length cs)
picks_long ops cs count =
    length-take count (set_places 0 (far_marks ops [] cs) ++ clear_places 0 (far_marks ops [] cs))
    ∙ ap (min count) (places_long 0 (far_marks ops [] cs) ∙ marks_long ops [] cs)

-- ---- which places

in_parts : {X : Type 0} (xs ys : List X) (i : ℕ) (x : X) → slice_get (xs ++ ys) i ≡ Some x
    → (slice_get xs i ≡ Some x) ⊎ ((j : ℕ) × (i ≡ length xs + j) × (slice_get ys j ≡ Some x))
in_parts [] ys i x e = inr (i, omega arith, e)
in_parts (z ∷ xs) ys zero x e = inl e
in_parts (z ∷ xs) ys (suc i) x e =
    elim (in_parts xs ys i x e) [
      | inl here ↦ inl here
      | inr there ↦ inr (there.0, omega (arith, there.1), there.2)
    ]

-- a place that is given has a mark of this kind, behind the marks before the first
pub record IsMark (which : Bool) (k : ℕ) (marks : List Bool) (place : ℕ) : Type 0 where
  pub from : ℕ
  pub is : place ≡ k + from
  pub mark : slice_get marks from ≡ Some which

later : (which b : Bool) (k : ℕ) (marks : List Bool) (place : ℕ) → IsMark which (suc k) marks place → IsMark which k (b ∷ marks) place
later which b k marks place m = record { from = suc m.from; is = omega (arith, m.is); mark = m.mark }

first : (b : Bool) (k : ℕ) (marks : List Bool) (place : ℕ) → k ≡ place → IsMark b k (b ∷ marks) place
first b k marks place e = record { from = 0; is = omega (arith, e); mark = refl }

set_mark : (k : ℕ) (marks : List Bool) (i place : ℕ) → slice_get (set_places k marks) i ≡ Some place → IsMark true k marks place
set_mark k [] i place e = absurd (none-some place e)
set_mark k (true ∷ marks) zero place e = first true k marks place (same_Some k place e)
set_mark k (true ∷ marks) (suc i) place e = later true true k marks place (set_mark (suc k) marks i place e)
set_mark k (false ∷ marks) i place e = later true false k marks place (set_mark (suc k) marks i place e)

clear_mark : (k : ℕ) (marks : List Bool) (i place : ℕ) → slice_get (clear_places k marks) i ≡ Some place → IsMark false k marks place
clear_mark k [] i place e = absurd (none-some place e)
clear_mark k (true ∷ marks) i place e = later false true k marks place (clear_mark (suc k) marks i place e)
clear_mark k (false ∷ marks) zero place e = first false k marks place (same_Some k place e)
clear_mark k (false ∷ marks) (suc i) place e = later false false k marks place (clear_mark (suc k) marks i place e)

inside : {X : Type 0} (xs : List X) (i : ℕ) (x : X) → slice_get xs i ≡ Some x → i < length xs
inside [] i x e = absurd (none-some x e)
inside (y ∷ ys) zero x e = omega arith
inside (y ∷ ys) (suc i) x e = omega (arith, inside ys i x e)

set_once : (k : ℕ) (marks : List Bool) (i j place : ℕ) → slice_get (set_places k marks) i ≡ Some place → slice_get (set_places k marks) j ≡ Some place → i ≡ j
set_once k [] i j place e f = absurd (none-some place e)
set_once k (true ∷ marks) zero zero place e f = refl
set_once k (true ∷ marks) zero (suc j) place e f = absurd (omega (arith, same_Some k place e, (set_mark (suc k) marks j place f).is))
set_once k (true ∷ marks) (suc i) zero place e f = absurd (omega (arith, same_Some k place f, (set_mark (suc k) marks i place e).is))
set_once k (true ∷ marks) (suc i) (suc j) place e f = ap (λ (n : ℕ). suc n) (set_once (suc k) marks i j place e f)
set_once k (false ∷ marks) i j place e f = set_once (suc k) marks i j place e f

clear_once : (k : ℕ) (marks : List Bool) (i j place : ℕ) → slice_get (clear_places k marks) i ≡ Some place → slice_get (clear_places k marks) j ≡ Some place
    → i ≡ j
clear_once k [] i j place e f = absurd (none-some place e)
clear_once k (true ∷ marks) i j place e f = clear_once (suc k) marks i j place e f
clear_once k (false ∷ marks) zero zero place e f = refl
clear_once k (false ∷ marks) zero (suc j) place e f = absurd (omega (arith, same_Some k place e, (clear_mark (suc k) marks j place f).is))
clear_once k (false ∷ marks) (suc i) zero place e f = absurd (omega (arith, same_Some k place f, (clear_mark (suc k) marks i place e).is))
clear_once k (false ∷ marks) (suc i) (suc j) place e f = ap (λ (n : ℕ). suc n) (clear_once (suc k) marks i j place e f)

OnlyTrue : Bool → Type 0
OnlyTrue true = Unit {0}
OnlyTrue false = ⊥

not_both : true ≡ false → ⊥
unfolding OnlyTrue
not_both e = subst OnlyTrue e tt

-- no mark is both
one_mark : (k : ℕ) (marks : List Bool) (place : ℕ) → IsMark true k marks place → IsMark false k marks place → ⊥
one_mark k marks place s c =
    let same : s.from ≡ c.from = omega (arith, s.is, c.is) in
    not_both (same_Some true false (sym s.mark ∙ ap (slice_get marks) same ∙ c.mark))

module _ (ops : Ops) (cs : List Candidate) (count : ℕ) where
  marks : List Bool
  marks = far_marks ops [] cs

  parts : (i place : ℕ) → slice_get (picked ops cs count) i ≡ Some place
      → (slice_get (set_places 0 marks) i ≡ Some place) ⊎ ((j : ℕ) × (i ≡ length (set_places 0 marks) + j) × (slice_get (clear_places 0 marks) j ≡ Some place))
  unfolding marks
  parts i place e = in_parts (set_places 0 marks) (clear_places 0 marks) i place (in_whole count _ i place e)

  of_mark : (which : Bool) (place : ℕ) → IsMark which 0 marks place → place < length cs
  unfolding marks
  of_mark which place m = omega (arith, m.is, inside marks m.from which m.mark, marks_long ops [] cs)

  pub picks_there : (i place : ℕ) → slice_get (picked ops cs count) i ≡ Some place → place < length cs
  picks_there i place e =
      elim (parts i place e) [
        | inl far ↦ of_mark true place (set_mark 0 marks i place far)
        | inr near ↦ of_mark false place (clear_mark 0 marks near.0 place near.2)
      ]

  pub picks_once : (i j place : ℕ) → slice_get (picked ops cs count) i ≡ Some place → slice_get (picked ops cs count) j ≡ Some place → i ≡ j
  picks_once i j place e f =
      elim (parts i place e) as (λ _. i ≡ j) [
        | inl far ↦ elim (parts j place f) as (λ _. i ≡ j) [
          | inl other ↦ set_once 0 marks i j place far other
          | inr other ↦ absurd (one_mark 0 marks place (set_mark 0 marks i place far) (clear_mark 0 marks other.0 place other.2))
        ]
        | inr near ↦ elim (parts j place f) as (λ _. i ≡ j) [
          | inl other ↦ absurd (one_mark 0 marks place (set_mark 0 marks j place other) (clear_mark 0 marks near.0 place near.2))
          | inr other ↦ omega (arith, near.1, other.1, clear_once 0 marks near.0 other.0 place near.2 other.2)
        ]
      ]
