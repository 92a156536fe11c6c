-- Further facts of a legal history, for those who rest on the law.
use Rattle.std.proofs.Common.{◌≡◌, ◌∙◌, inl, inr, ℕ, ◌<◌, ◌≤◌, false, List, [], ◌∷◌, ◌++◌, length, length-take, take, Some, sym, ap, subst, arith}
use Rattle.std.proofs.lemmas.List.{length-take-le}
use Rattle.std.proofs.lemmas.Option.{slice_get_within}
use Rattle.vec_history.specs.declared.event.Event.{Event}
use Rattle.vec_history.specs.declared.event.Event.TheVariants as event
use Rattle.vec_history.specs.declared.gate.Gate.TheVariants.{Scan}
use Rattle.vec_history.specs.declared.gate.Hold.{Hold}
use Rattle.vec_history.specs.Acts.{act_of}
use Rattle.vec_history.specs.Gates.{HoldsSince}
use Rattle.list_values.proofs.Parts.{in_part, in_whole}
use Rattle.vec_graph.specs.declared.node.Node.{Node}
use Rattle.graph_law.specs.Touching.{IsTouchedAt}
use Rattle.graph_law.proofs.Touched.{touched_within}
use Rattle.graph_law.proofs.Marking.{states_in}
use Rattle.std.proofs.lemmas.Option.{none-some, same_Some}
use Rattle.vec_names.specs.declared.tid.Tid.{Tid}
use Rattle.vec_history.specs.declared.event.Act.{Act}
use Rattle.vec_graph.specs.declared.graph.Graph.{Graph}
use Rattle.vec_graph.specs.Graph.{node_at, IsLiveAt, IsDoomedAt, HasMember}
use Rattle.vec_graph.specs.Places.{IsOnBlocks}
use Rattle.vec_graph.specs.Effect.{after, state_after}
use Rattle.vec_graph.specs.Legal.{IsAllowed, IsLegal}
use Rattle.vec_graph.specs.Sound.{IsSound}
use Rattle.graph_law.specs.Reaching.{IsRootWith, is_entry, is_live, IsSoundWith}
use Rattle.vec_graph.specs.Sound.{IsReachedFrom, from_root, through}
use Rattle.graph_law.specs.Standing.{IsInHand, IsCleanFrom}
use Rattle.vec_history.specs.Phases.{IsBehindDrops}
use Rattle.vec_graph.specs.Lasting.{IsMarkAt, IsSameAt}
use Rattle.graph_law.proofs.Soundness.{sound_of, sound_with}
use Rattle.vec_history.proofs.ByActs.{by_acts, cut}
use Rattle.vec_graph.proofs.Lasting.{same_state, last_state, stays_same}
use Rattle.vec_history.proofs.OneMore.{place_of}
use Rattle.vec_graph.proofs.Placing.{on_blocks_after}
use Rattle.graph_law.proofs.Known.{step_of}
use Rattle.graph_law.proofs.Clean.{behind_before, no_drop_last}
use Rattle.graph_law.proofs.ActByAct.{lawful, all_live, scan_not_deleted, scan_not_marked}

module _ (base : Graph) (on : IsOnBlocks base) where
  -- ---- behind all drops no node becomes doomed

  WasDoomed : List Act → Type 0
  WasDoomed acts = (b : ℕ) → IsBehindDrops acts b → (p : ℕ) → b < p → p ≤ length acts → (q : Tid) → IsDoomedAt (after base acts) q → IsDoomedAt (state_after base acts p) q

  doomed_one : (acts : List Act) → IsLegal base acts → (a : Act) → IsAllowed base acts a → WasDoomed acts → WasDoomed (acts ++ a ∷ [])
  unfolding WasDoomed
  doomed_one acts legal a may was b behind p later met q d =
      elim (place_of acts a p met) as (λ _. IsDoomedAt (state_after base (acts ++ a ∷ []) p) q) [
        | inl before ↦
            let low : b < length acts = omega (arith, later, before) in
            elim ((step_of base on acts a may).doomed_back q d) as (λ _. IsDoomedAt (state_after base (acts ++ a ∷ []) p) q) [
              | inl there ↦ subst (λ (h : Graph). IsDoomedAt h q) (sym (same_state base acts a p before)) (was b (behind_before acts a b low behind) p later before q there)
              | inr drop ↦ absurd (no_drop_last acts a b low behind drop)
            ]
        | inr last ↦ subst (λ (h : Graph). IsDoomedAt h q) (sym (last_state base (acts ++ a ∷ []) p last)) d
      ]

  pub was_doomed : (acts : List Act) → IsLegal base acts → (b : ℕ) → IsBehindDrops acts b → (p : ℕ) → b < p → p ≤ length acts → (q : Tid) → IsDoomedAt (after base acts) q
      → IsDoomedAt (state_after base acts p) q
  unfolding WasDoomed
  was_doomed = by_acts (IsAllowed base) WasDoomed doomed_one (λ b behind. absurd (none-some _ behind.taken))

  mark_of : (q : Tid) (e : Event) → IsMarkAt q e → (list_at : Tid) × (version : ℕ) × (e ≡ event.Mark q list_at version)
  mark_of q (event.Mark at list_at version) same = (list_at, version, ap (λ (t : Tid). event.Mark t list_at version) same)
  mark_of q e none = absurd none

  -- so is a node that a scan has touched, while it holds Scan
  pub scan_same : IsSound base → (acts : List Act) → IsLegal base acts → (n desk since p : ℕ) (hold : Hold) (q : Tid) (was : Node) → n ≤ length acts
      → HoldsSince (take n acts) desk Scan hold since → IsTouchedAt base acts since p q → p ≤ n → node_at (state_after base acts p) q ≡ Some was → IsSameAt (state_after base acts n) q was
  scan_same sound acts legal n desk since p hold q was met holds t low stands =
      let within = touched_within base acts since p q t in
      let long : length (take n acts) ≡ n = length-take-le n acts met in
      let holds_then : (j : ℕ) → p ≤ j → j < n → HoldsSince (take j acts) desk Scan hold since = (λ j from below. record {
        taken = in_part j acts since _ (omega (arith, within.0, from)) (in_whole n acts since _ holds.taken);
        kept = λ i a later is of.
            let early : i < length (take j acts) = slice_get_within (take j acts) i a is in
            holds.kept i a later (in_part n acts i a (omega (arith, early, length-take j acts, below)) (in_whole j acts i a is)) of;
      }) in
      let here : HoldsSince (take p acts) desk Scan hold since = record {
        taken = in_part p acts since _ (omega (arith, within.0)) (in_whole n acts since _ holds.taken);
        kept = λ i a later is of.
            let early : i < length (take p acts) = slice_get_within (take p acts) i a is in
            holds.kept i a later (in_part n acts i a (omega (arith, early, length-take p acts, low)) (in_whole p acts i a is)) of;
      } in
      let alive = scan_not_deleted base on sound acts legal p desk since p hold q within.1 here t (omega arith) in
      stays_same base (take n acts) (cut (IsAllowed base) acts n legal) p (omega (arith, low, long)) (on_blocks_after base (take p (take n acts)) on) q was
      (λ j a from is mark.
      let event_is = mark_of q a.event mark in
      let below : j < length (take n acts) = slice_get_within (take n acts) j a is in
      scan_not_marked base on sound acts legal j desk a.desk since p event_is.1 hold q event_is.0
      (in_whole n acts j a is ∙ ap (λ (e : Event). Some (act_of a.desk e)) event_is.2) (holds_then j from (omega (arith, below, long))) t from)
      (subst (λ (h : Graph). node_at h q ≡ Some was) (sym (states_in base acts n p low)) stands)
      (subst (λ (k : Node). k.deleted ≡ false) (same_Some _ _ (sym alive.stands ∙ stands)) alive.not_deleted)

  -- ---- where all was cleaned

  module _ (sound : IsSound base) (acts : List Act) (legal : IsLegal base acts) where
    -- sound from the entry point and live nodes alone
    sound_alone : IsSoundWith (after base acts) (λ _. ⊥)
    sound_alone = sound_with (after base acts) (λ _. ⊥) (λ q none. none) (sound_of (after base acts) (IsInHand base acts) (lawful base on sound acts legal).sound)

    live_from : (p : ℕ) → IsCleanFrom base acts p → (q : Tid) → IsReachedFrom (after base acts) (IsRootWith (after base acts) (λ _. ⊥)) q → IsLiveAt (after base acts) q 0
    live_from p clean = all_live base on acts legal p clean (λ _. ⊥) sound_alone (λ q none. absurd none)

    -- the slots of live nodes name live nodes, and the entry point is live or none
    pub members_live : (p layer : ℕ) (at to : Tid) → IsCleanFrom base acts p → IsLiveAt (after base acts) at 0 → HasMember (after base acts) at layer to
        → IsLiveAt (after base acts) to 0
    members_live p layer at to clean live has = live_from p clean to (through at layer to (from_root at (is_live at live)) has)

    pub entry_live : (p : ℕ) (to : Tid) → IsCleanFrom base acts p → (after base acts).entry ≡ Some to → IsLiveAt (after base acts) to 0
    entry_live p to clean is = live_from p clean to (from_root to (is_entry to is))
