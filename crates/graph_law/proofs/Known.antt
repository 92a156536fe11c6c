-- Behind all drops what is live stays live, so what is known is live.
use Rattle.std.proofs.Common.{◌≡◌, inl, inr, ℕ, ◌<◌, ◌≤◌, List, [], ◌∷◌, ◌++◌, length, slice_get, Some, sym, subst, arith}
use Rattle.vec_names.specs.declared.tid.Tid.{Tid}
use Rattle.vec_history.specs.declared.event.Act.{Act}
use Rattle.vec_history.specs.declared.gate.Gate.TheVariants.{Update}
use Rattle.vec_history.specs.Phases.{IsDrop}
use Rattle.vec_graph.specs.declared.graph.Graph.{Graph}
use Rattle.vec_graph.specs.Graph.{IsLiveAt}
use Rattle.vec_graph.specs.Places.{IsOnBlocks}
use Rattle.vec_graph.specs.Effect.{after, state_after}
use Rattle.vec_graph.specs.Knowing.{Knows}
use Rattle.vec_graph.specs.Legal.{IsAllowed, IsLegal}
use Rattle.vec_graph.proofs.Levels.{after_append}
use Rattle.vec_graph.proofs.Placing.{on_blocks_after}
use Rattle.vec_history.proofs.OneMore.{in_longer}
use Rattle.vec_history.specs.Phases.{IsBehindDrops}
use Rattle.vec_graph.proofs.Steps.{IsStep, step}
use Rattle.vec_history.proofs.ByActs.{by_acts}
use Rattle.vec_graph.proofs.Lasting.{gates_of, same_state, last_state}
use Rattle.vec_history.proofs.OneMore.{place_of, act_last}
use Rattle.vec_history.proofs.Alone.{not_before_alone}

module _ (base : Graph) (on : IsOnBlocks base) where
  -- one act
  pub step_of : (acts : List Act) (a : Act) → IsAllowed base acts a → IsStep base acts a.desk a.event (after base acts) (after base (acts ++ a ∷ []))
  step_of acts a may =
      subst (λ (h : Graph). IsStep base acts a.desk a.event (after base acts) h) (sym (after_append base acts (a ∷ [])))
      (step base acts (on_blocks_after base acts on) a.desk a.event may)

  -- no act of this number or later is a Drop
  NoDropFrom : List Act → ℕ → Type 0
  NoDropFrom acts p = (j : ℕ) (a : Act) → p ≤ j → slice_get acts j ≡ Some a → IsDrop a.event → ⊥

  StaysLive : List Act → Type 0
  StaysLive acts = (p : ℕ) → p ≤ length acts → NoDropFrom acts p → (at : Tid) (layer : ℕ) → IsLiveAt (state_after base acts p) at layer → IsLiveAt (after base acts) at layer

  stays_one : (acts : List Act) → IsLegal base acts → (a : Act) → IsAllowed base acts a → StaysLive acts → StaysLive (acts ++ a ∷ [])
  unfolding StaysLive NoDropFrom
  stays_one acts legal a may was p met none at layer live =
      elim (place_of acts a p met) as (λ _. IsLiveAt (after base (acts ++ a ∷ [])) at layer) [
        | inl before ↦
            let here : IsLiveAt (after base acts) at layer =
            was p before (λ j b low is. none j b low (in_longer acts (a ∷ []) j b is)) at layer (subst (λ (h : Graph). IsLiveAt h at layer) (same_state base acts a p before) live) in
            elim ((step_of acts a may).live_on at layer here) as (λ _. IsLiveAt (after base (acts ++ a ∷ [])) at layer) [
              | inl now ↦ now
              | inr drop ↦ absurd (none (length acts) a before (act_last acts a) drop)
            ]
        | inr last ↦ subst (λ (h : Graph). IsLiveAt h at layer) (last_state base (acts ++ a ∷ []) p last) live
      ]

  stays_live : (acts : List Act) → IsLegal base acts → StaysLive acts
  unfolding StaysLive
  stays_live = by_acts (IsAllowed base) StaysLive stays_one (λ p met none at layer live. subst (λ (h : Graph). IsLiveAt h at layer) (last_state base [] p (omega arith)) live)

  -- what was live behind all drops is live
  pub live_behind : (acts : List Act) → IsLegal base acts → (b : ℕ) → IsBehindDrops acts b → (p : ℕ) → b < p → p ≤ length acts → (at : Tid) (layer : ℕ)
      → IsLiveAt (state_after base acts p) at layer → IsLiveAt (after base acts) at layer
  unfolding StaysLive NoDropFrom
  live_behind acts legal b behind p later met at layer live = stays_live acts legal p met (λ j a low is drop. behind.no_drop j a (omega arith) is drop) at layer live

  pub known_live : (acts : List Act) → IsLegal base acts → (b : ℕ) → IsBehindDrops acts b → (desk : ℕ) (at : Tid) (layer : ℕ) → Knows base acts desk at layer
      → IsLiveAt (after base acts) at layer
  known_live acts legal b behind desk at layer k =
      let not_before : b ≤ k.since = not_before_alone acts (gates_of base acts legal) Update k.hold desk behind.desk k.since b behind.taken k.holds in
      live_behind acts legal b behind k.position (omega (arith, not_before, k.later)) k.met at layer k.was_live
