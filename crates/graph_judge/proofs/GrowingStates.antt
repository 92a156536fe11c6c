-- The graphs of a history that grows by an act.
use Rattle.std.proofs.Common.{◌≡◌, inl, inr, ℕ, zero, suc, ◌<◌, ◌≤◌, List, [], ◌∷◌, ◌++◌, take, slice_get, length, Some, refl, sym, ap, ◌∙◌, length-append, arith}
use Rattle.std.proofs.Math.Seq.{take-length}
use Rattle.std.proofs.lemmas.List.{take-append-le}
use Rattle.vec_history.specs.declared.event.Act.{Act}
use Rattle.list_values.proofs.Parts.{in_order}
use Rattle.vec_graph.specs.declared.graph.Graph.{Graph}
use Rattle.vec_graph.specs.Effect.{effect, after, state_after}
use Rattle.graph_judge.specs.Course.{AreStates}
use Rattle.vec_graph.proofs.Levels.{after_append}

module _ {A : Type 0} where
  get_front : (xs ys : List A) (n : ℕ) → n < length xs → slice_get (xs ++ ys) n ≡ slice_get xs n
  get_front [] ys n h = absurd (omega arith)
  get_front (x ∷ xs) ys zero h = refl
  get_front (x ∷ xs) ys (suc n) h = get_front xs ys n (omega arith)

  get_next : (xs : List A) (y : A) → slice_get (xs ++ y ∷ []) (length xs) ≡ Some y
  get_next [] y = refl
  get_next (x ∷ xs) y = get_next xs y

pub states_begin : (base : Graph) → AreStates base [] (base ∷ [])
states_begin base = record { as_many = refl; each = at }
  where
    at : (n : ℕ) → n ≤ 0 → slice_get (base ∷ []) n ≡ Some (state_after base [] n)
    at zero h = refl
    at (suc n) h = absurd (omega arith)

pub last_state : (base : Graph) (acts : List Act) (states : List Graph) → AreStates base acts states → slice_get states (length acts) ≡ Some (after base acts)
last_state base acts states are = are.each (length acts) (omega arith) ∙ ap (λ h. Some (after base h)) (take-length acts)

pub states_more : (base : Graph) (acts : List Act) (states : List Graph) (a : Act) (g : Graph) → AreStates base acts states
    → g ≡ effect 255 a.event (after base acts) → AreStates base (acts ++ a ∷ []) (states ++ g ∷ [])
states_more base acts states a g are is = record { as_many = omega (arith, length-append states (g ∷ []), length-append acts (a ∷ []), are.as_many); each = at }
  where
    at : (n : ℕ) → n ≤ length (acts ++ a ∷ []) → slice_get (states ++ g ∷ []) n ≡ Some (state_after base (acts ++ a ∷ []) n)
    at n h =
        elim (in_order n (length states)) as (λ _. slice_get (states ++ g ∷ []) n ≡ Some (state_after base (acts ++ a ∷ []) n)) [
          | inl before ↦
              let within : n ≤ length acts = omega (arith, are.as_many) in
              get_front states (g ∷ []) n before ∙ are.each n within ∙ ap (λ h. Some (after base h)) (sym (take-append-le n acts (a ∷ []) within))
          | inr (inl same) ↦
              let all : take n (acts ++ a ∷ []) ≡ acts ++ a ∷ [] = ap (λ k. take k (acts ++ a ∷ [])) (omega (arith, length-append acts (a ∷ []), are.as_many)) ∙ take-length (acts ++ a ∷ []) in
              ap (slice_get (states ++ g ∷ [])) same ∙ get_next states g ∙ ap Some (is ∙ sym (after_append base acts (a ∷ []))) ∙ ap (λ h. Some (after base h)) (sym all)
          | inr (inr behind) ↦ absurd (omega (arith, length-append acts (a ∷ []), are.as_many))
        ]
