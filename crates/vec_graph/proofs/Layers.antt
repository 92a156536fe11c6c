-- The layer of a slot, and the slots of a layer.
use Rattle.std.proofs.Common.{◌≡◌, ◌↔◌, ℕ, ◌+◌, ◌-◌, ◌*◌, ◌/◌, ◌<◌, ◌≤◌, ◌==◌, true, false, cond, List, take, drop, length, get_or, slice_get, Contains, Option, Some, refl, sym, ap, subst, ◌∙◌, arith, length-drop, length-take, get_or-drop, get_or-take, eqb-true, eq-eqb, true≢false, ◌≢◌, le-div_iff_mul-le, div-lt_iff_lt-mul, add-mul, one-mul}
use Rattle.std.proofs.lemmas.Option.{slice_get_within, get_or_from_slice_get, slice_get_read}
use Rattle.std.proofs.Math.Nat.{div-mul-le_self, lt-div-mul-add, mul-add-div_right}
use Rattle.std.proofs.lemmas.Nat.{div-mul-add}
use Rattle.vec_names.specs.declared.tid.Tid.{Tid}
use Rattle.vec_graph.specs.Graph.{IsMember, layer_slots, slot_layer}

-- ---- parts of a list

at_index : (xs : List (Option Tid)) (k : ℕ) (to : Tid) → k < length xs → get_or xs k (Some to) ≡ Some to → slice_get xs k ≡ Some (Some to)
at_index xs k to h e = slice_get_read xs (length xs) k (Some to) refl h (sym e)

in_rest : (a : ℕ) (xs : List (Option Tid)) (to : Tid) → Contains (drop a xs) (Some to) → (s : ℕ) × (slice_get xs s ≡ Some (Some to)) × (a ≤ s)
in_rest a xs to c =
    let few = length-drop a xs in
    (a + c.0, at_index xs (a + c.0) to (omega (arith, c.1, few)) (sym (get_or-drop a xs c.0 (Some to)) ∙ c.2), omega arith)

rest_has : (a : ℕ) (xs : List (Option Tid)) (to : Tid) (s : ℕ) → slice_get xs s ≡ Some (Some to) → a ≤ s → Contains (drop a xs) (Some to)
rest_has a xs to s is low =
    let inside = slice_get_within xs s (Some to) is in
    let few = length-drop a xs in
    let here : a + (s - a) ≡ s = omega (arith, low) in
    (s - a, omega (arith, inside, few, low), get_or-drop a xs (s - a) (Some to) ∙ ap (λ k. get_or xs k (Some to)) here ∙ get_or_from_slice_get xs s (Some to) (Some to) is)

in_part : (a w : ℕ) (xs : List (Option Tid)) (to : Tid) → Contains (take w (drop a xs)) (Some to)
    → (s : ℕ) × (slice_get xs s ≡ Some (Some to)) × (a ≤ s) × (s < a + w)
in_part a w xs to c =
    let few = length-take w (drop a xs) in
    let early : c.0 < w = omega (arith, c.1, few) in
    let inside : c.0 < length (drop a xs) = omega (arith, c.1, few) in
    let rest = length-drop a xs in
    (a + c.0, at_index xs (a + c.0) to (omega (arith, inside, rest)) (sym (get_or-drop a xs c.0 (Some to)) ∙ sym (get_or-take w (drop a xs) c.0 (Some to) early) ∙ c.2), omega arith, omega (arith, early))

part_has : (a w : ℕ) (xs : List (Option Tid)) (to : Tid) (s : ℕ) → slice_get xs s ≡ Some (Some to) → a ≤ s → s < a + w → Contains (take w (drop a xs)) (Some to)
part_has a w xs to s is low high =
    let inside = slice_get_within xs s (Some to) is in
    let rest = length-drop a xs in
    let few = length-take w (drop a xs) in
    let here : a + (s - a) ≡ s = omega (arith, low) in
    let early : s - a < w = omega (arith, low, high) in (
      s - a,
      omega (arith, inside, rest, few, low, high),
      get_or-take w (drop a xs) (s - a) (Some to) early ∙ get_or-drop a xs (s - a) (Some to) ∙ ap (λ k. get_or xs k (Some to)) here
          ∙ get_or_from_slice_get xs s (Some to) (Some to) is,
    )

-- ---- the numbers

quotient : (level layer q : ℕ) → 1 ≤ layer → level - q ≡ layer → q ≡ level - layer
quotient level layer q above e = omega arith

from_member : (m level layer s : ℕ) → 1 ≤ m → 1 ≤ layer → level - s / m ≡ layer → ((level - layer) * m ≤ s) × (s < (level - layer) * m + m)
from_member m level layer s positive above e =
    let q = quotient level layer (s / m) above e in
    (subst (λ x. x * m ≤ s) q (div-mul-le_self s m), subst (λ x. s < x * m + m) q (lt-div-mul-add positive))

one_more : (x m : ℕ) → (x + 1) * m ≡ x * m + m
one_more x m = add-mul x 1 m ∙ ap (λ k. x * m + k) (one-mul m)

to_member : (m level layer s : ℕ) → 1 ≤ m → layer ≤ level → (level - layer) * m ≤ s → s < (level - layer) * m + m → level - s / m ≡ layer
to_member m level layer s positive high low below =
    let not_less : level - layer ≤ s / m = (le-div_iff_mul-le positive).1 low in
    let not_more : s / m < (level - layer) + 1 = (div-lt_iff_lt-mul positive).1 (subst (λ k. s < k) (sym (one_more (level - layer) m)) below) in
    omega (arith, high, not_less, not_more)

lowest_from : (m level s : ℕ) → 1 ≤ m → level - s / m ≡ 0 → level * m ≤ s
lowest_from m level s positive e = (le-div_iff_mul-le positive).0 (omega (arith, e))

lowest_to : (m level s : ℕ) → 1 ≤ m → level * m ≤ s → level - s / m ≡ 0
lowest_to m level s positive low = let q : level ≤ s / m = (le-div_iff_mul-le positive).1 low in omega (arith, q)

-- ---- members

in_lowest : (m level layer : ℕ) (slots : List (Option Tid)) (to : Tid) → 1 ≤ m → layer ≡ 0
    → IsMember m level slots layer to ↔ Contains (drop (level * m) slots) (Some to)
in_lowest m level layer slots to positive zero_is = (
  λ is. rest_has (level * m) slots to is.slot is.names (lowest_from m level is.slot positive (is.within ∙ zero_is)),
  λ c. let there = in_rest (level * m) slots to c in record { slot = there.0; names = there.1; within = lowest_to m level there.0 positive there.2 ∙ sym zero_is },
)

in_higher : (m level layer : ℕ) (slots : List (Option Tid)) (to : Tid) → 1 ≤ m → layer ≤ level → 1 ≤ layer
    → IsMember m level slots layer to ↔ Contains (take m (drop ((level - layer) * m) slots)) (Some to)
in_higher m level layer slots to positive high above = (
  λ is. let there = from_member m level layer is.slot positive above is.within in part_has ((level - layer) * m) m slots to is.slot is.names there.0 there.1,
  λ c. let there = in_part ((level - layer) * m) m slots to c in
      record { slot = there.0; names = there.1; within = to_member m level layer there.0 positive high there.2 there.3 },
)

positive_of : (n : ℕ) → n ≢ 0 → 1 ≤ n
positive_of n h = omega (arith, h)

pub members : (m level layer : ℕ) (slots : List (Option Tid)) (to : Tid) → 1 ≤ m → layer ≤ level
    → IsMember m level slots layer to ↔ Contains (layer_slots m level layer slots) (Some to)
members m level layer slots to positive high =
    elim (layer == 0) as (λ b. (layer == 0) ≡ b
    → IsMember m level slots layer to ↔ Contains (cond b (drop (level * m) slots) (take m (drop ((level - layer) * m) slots))) (Some to)) [
      | true ↦ λ e. in_lowest m level layer slots to positive (eqb-true _ _ e)
      | false ↦ λ e. in_higher m level layer slots to positive high (positive_of layer (λ z. true≢false (sym (eq-eqb layer 0 z) ∙ e)))
    ] refl

-- ---- the slot of a layer

-- the slot of this number of a layer, counted over the whole tuple
pub layer_of_place : (m level layer s : ℕ) → layer ≤ level → s < m → slot_layer m level ((level - layer) * m + s) ≡ layer
layer_of_place m level layer s low few =
    let over = div-mul-add (level - layer) m s few in
    ap (λ (k : ℕ). level - k) over ∙ omega (arith, low)

pub lowest_of_place : (m level s : ℕ) → 1 ≤ m → slot_layer m level (level * m + s) ≡ 0
lowest_of_place m level s some =
    let over = mul-add-div_right some level s in
    ap (λ (k : ℕ). level - k) over ∙ omega arith
