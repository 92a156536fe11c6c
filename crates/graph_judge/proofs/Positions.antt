-- Positions of a history, and the graphs that it goes through.
use Rattle.std.proofs.Common.{◌≡◌, ◌↔◌, ℕ, inl, inr, zero, suc, ◌+◌, ◌-◌, ◌<◌, ◌≤◌, List, [], ◌∷◌, length, take, drop, slice_get, Some, refl, sym, ap, subst, ◌∙◌, length-take, arith}
use Rattle.std.proofs.lemmas.Option.{slice_get_within, same_Some}
use Rattle.list_values.proofs.Parts.{in_order, in_whole, in_part}
use Rattle.vec_history.specs.declared.event.Act.{Act}
use Rattle.vec_graph.specs.declared.graph.Graph.{Graph}
use Rattle.vec_graph.specs.Effect.{state_after}
use Rattle.graph_judge.specs.Course.{AreStates}
use Rattle.vec_graph.specs.Cleaning.{SomeState}
use Rattle.graph_judge.specs.Knowable.{IsSomewhere}

-- the first graphs, so many, are not so
abbrev pub NoneBefore : (Graph → Type 0) → List Graph → ℕ → Type 0
NoneBefore P states n = (k : ℕ) (g : Graph) → k < n → slice_get states k ≡ Some g → P g → ⊥

pub found : (P : Graph → Type 0) (states : List Graph) (n : ℕ) (g : Graph) → slice_get states n ≡ Some g → P g → IsSomewhere P states
found P states n g there is = record { number = n; state = g; there = there; is = is }

pub none_more : (P : Graph → Type 0) (states : List Graph) (n : ℕ) (here : Graph) → slice_get states n ≡ Some here → NoneBefore P states n → (P here → ⊥)
    → NoneBefore P states (n + 1)
none_more P states n here at before not k g low there is =
    elim (in_order k n) as (λ _. ⊥) [
      | inl less ↦ before k g less there is
      | inr (inl same) ↦ not (subst P (same_Some _ _ (sym there ∙ ap (slice_get states) same ∙ at)) is)
      | inr (inr behind) ↦ absurd (omega arith)
    ]

pub none_at_all : (P : Graph → Type 0) (states : List Graph) (n : ℕ) → length states ≤ n → NoneBefore P states n → IsSomewhere P states → ⊥
none_at_all P states n long before some =
    let low : some.number < length states = slice_get_within states some.number some.state some.there in
    before some.number some.state (omega arith) some.there some.is

number_below : (n : ℕ) (xs : List Graph) (k : ℕ) (g : Graph) → slice_get (take n xs) k ≡ Some g → k < n
number_below n xs k g at =
    let within : k < length (take n xs) = slice_get_within (take n xs) k g at in
    omega (arith, length-take n xs)

-- what is dropped shifts the places
pub dropped_at : {X : Type 0} (n : ℕ) (xs : List X) (k : ℕ) → slice_get (drop n xs) k ≡ slice_get xs (n + k)
dropped_at zero xs k = let e : k ≡ zero + k = omega arith in ap (slice_get xs) e
dropped_at (suc n) [] k = refl
dropped_at (suc n) (x ∷ xs) k = let e : suc (n + k) ≡ suc n + k = omega arith in dropped_at n xs k ∙ ap (slice_get (x ∷ xs)) e

-- the graphs from one position to another
pub some_state_in : (base : Graph) (acts : List Act) (states : List Graph) (low high n : ℕ) (P : Graph → Type 0) → AreStates base acts states
    → high ≤ length acts → low + n ≡ high + 1 → IsSomewhere P (take n (drop low states)) ↔ SomeState base acts low high P
some_state_in base acts states low high n P course within as_many = (
  λ some.
      let number : ℕ = some.number in
      let few : number < n = number_below n (drop low states) number some.state some.there in
      let met : low + number ≤ length acts = omega arith in
      let at = sym (course.each (low + number) met) ∙ sym (dropped_at low states number) ∙ in_whole n (drop low states) number some.state some.there in
      record { position = low + number; from_low = omega arith; to_high = omega arith; is = subst P (sym (same_Some _ _ at)) some.is },
  λ some.
      let position : ℕ = some.position in
      let from_low : low ≤ position = some.from_low in
      let to_high : position ≤ high = some.to_high in
      let here : low + (position - low) ≡ position = omega arith in
      let met : position ≤ length acts = omega arith in
      let at = dropped_at low states (position - low) ∙ ap (slice_get states) here ∙ course.each position met in
      record {
        number = position - low;
        state = state_after base acts position;
        there = in_part n (drop low states) (position - low) _ (omega arith) at;
        is = some.is;
      },
)
