-- Properties of all elements of a list.
use Rattle.std.proofs.Common.{◌≡◌, ℕ, zero, suc, ◌+◌, ◌*◌, ◌-◌, ◌<◌, ◌≤◌, ◌==◌, true, false, cond, List, [], ◌∷◌, ◌++◌, take, drop, length, Contains, Option, Some, None, refl, subst, ◌∙◌, arith, length-drop, length-take, mul-zero}
use Rattle.vec_names.specs.declared.tid.Tid.{Tid}
use Rattle.vec_graph.specs.Graph.{IsMember, layer_slots}
use Rattle.vec_graph.proofs.Layers.{members}
use Rattle.neighbour_pick.proofs.Choosing.{All_of}
use Rattle.graph_search.specs.Search.{filled, fresh, is_among}

pub taken_all : {X : Type 0} (P : X → Type 0) (n : ℕ) (xs : List X) → All_of P xs → All_of P (take n xs)
unfolding All_of
taken_all P zero xs all = tt
taken_all P (suc n) [] all = tt
taken_all P (suc n) (x ∷ xs) all = (all.0, taken_all P n xs all.1)

pub contained_all : {X : Type 0} (P : X → Type 0) (xs : List X) (x : X) → All_of P xs → Contains xs x → P x
unfolding All_of
contained_all P [] x all c = absurd (omega (arith, c.1))
contained_all P (y ∷ xs) x all (zero, low, is) = subst P is all.0
contained_all P (y ∷ xs) x all (suc k, low, is) = contained_all P xs x all.1 (k, omega (arith, low), is)

-- ---- the places that slots name

one_later : {X : Type 0} (y : X) (xs : List X) (x : X) → Contains xs x → Contains (y ∷ xs) x
one_later y xs x c = (suc c.0, omega (arith, c.1), c.2)

module _ (slots : List (Option Tid)) where
  filled_from : (P : Tid → Type 0) (front : List (Option Tid)) → ((at : Tid) → Contains front (Some at) → P at) → All_of P (filled front)
  unfolding All_of
  filled_from P [] each = tt
  filled_from P (None ∷ front) each = filled_from P front (λ at c. each at (one_later None front (Some at) c))
  filled_from P (Some q ∷ front) each =
      (each q (zero, omega arith, refl), filled_from P front (λ at c. each at (one_later (Some q) front (Some at) c)))

pub fresh_all : (P : Tid → Type 0) (before places : List Tid) → All_of P places → All_of P (fresh before places)
unfolding All_of
fresh_all P before [] all = tt
fresh_all P before (at ∷ places) all =
    elim (is_among before at) as (λ b. All_of P (cond b (fresh before places) (at ∷ fresh (before ++ at ∷ []) places))) [
      | true ↦ fresh_all P before places all.1
      | false ↦ (all.0, fresh_all P (before ++ at ∷ []) places all.1)
    ]

-- ---- the slots of a layer

has_slot : (m level layer : ℕ) (slots : List (Option Tid)) (x : Option Tid) → Contains (layer_slots m level layer slots) x → 0 < length slots
has_slot m level layer slots x c =
    let low : c.0 < length (layer_slots m level layer slots) = c.1 in
    let all = length-drop (level * m) slots in
    let some = length-drop ((level - layer) * m) slots in
    let few = length-take m (drop ((level - layer) * m) slots) in
    elim (layer == 0) as (λ b. c.0 < length (cond b (drop (level * m) slots) (take m (drop ((level - layer) * m) slots))) → 0 < length slots) [
      | true ↦ λ h. omega (arith, h, all)
      | false ↦ λ h. omega (arith, h, few, some)
    ] low

-- each place that a layer's slots name is a member of it, where there are as many slots as the level asks
pub layer_members : (m level layer : ℕ) (slots : List (Option Tid)) → length slots ≡ (level + 2) * m → layer ≤ level
    → All_of (λ to. IsMember m level slots layer to) (filled (layer_slots m level layer slots))
layer_members zero level layer slots many high =
    filled_from slots (λ to. IsMember zero level slots layer to) (layer_slots zero level layer slots)
    (λ at c. let some = has_slot zero level layer slots (Some at) c in let none = many ∙ mul-zero (level + 2) in absurd (omega (arith, some, none)))
layer_members (suc k) level layer slots many high =
    filled_from slots (λ to. IsMember (suc k) level slots layer to) (layer_slots (suc k) level layer slots)
    (λ at c. (members (suc k) level layer slots at (omega arith) high).1 c)
