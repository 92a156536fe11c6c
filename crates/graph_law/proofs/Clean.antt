-- Behind all drops a layer that is clean stays so.
use Rattle.std.proofs.Common.{◌≡◌, inl, inr, ℕ, ◌+◌, ◌<◌, ◌≤◌, List, [], ◌∷◌, ◌++◌, length, Some, sym, subst, ◌∙◌, arith}
use Rattle.std.proofs.lemmas.Option.{same_Some, none-some}
use Rattle.vec_names.specs.declared.tid.Tid.{Tid}
use Rattle.vec_history.specs.declared.event.Act.{Act}
use Rattle.vec_history.specs.Phases.{IsDrop}
use Rattle.vec_graph.specs.declared.graph.Graph.{Graph}
use Rattle.vec_graph.specs.declared.node.Node.{Node}
use Rattle.vec_graph.specs.Graph.{IsLiveAt, IsDoomedAt, IsUndeletedAt, HasMember}
use Rattle.vec_graph.specs.Places.{IsOnBlocks}
use Rattle.vec_graph.specs.Effect.{after, state_after}
use Rattle.vec_graph.specs.Legal.{IsAllowed, IsLegal}
use Rattle.graph_law.specs.Standing.{IsCleanFrom}
use Rattle.vec_graph.specs.Knowing.{IsKnown}
use Rattle.vec_history.specs.Phases.{IsBehindDrops}
use Rattle.vec_graph.proofs.Steps.{IsStep}
use Rattle.vec_history.proofs.ByActs.{by_acts}
use Rattle.vec_graph.proofs.Lasting.{same_state, last_state}
use Rattle.vec_history.proofs.OneMore.{place_of, act_before, act_last, none_before}
use Rattle.graph_law.proofs.Known.{step_of, known_live}

-- a live node has a doomed member in this layer
pub record IsUnclean (g : Graph) (at : Tid) (layer : ℕ) : Type 0 where
  pub live : IsLiveAt g at layer
  pub to : Tid
  pub member : HasMember g at layer to
  pub doomed : IsDoomedAt g to

pub record IsEntryDoomed (g : Graph) : Type 0 where
  pub to : Tid
  pub is : g.entry ≡ Some to
  pub doomed : IsDoomedAt g to

pub live_not_doomed : (g : Graph) (at : Tid) (layer : ℕ) → IsLiveAt g at layer → IsDoomedAt g at → ⊥
live_not_doomed g at layer l d = l.live.has_ids (subst (λ (n : Node). n.ids ≡ []) (same_Some _ _ (sym d.stands ∙ l.stands)) d.doomed.no_ids)

-- the barrier's act stands in the shorter history too
pub behind_before : (acts : List Act) (a : Act) (b : ℕ) → b < length acts → IsBehindDrops (acts ++ a ∷ []) b → IsBehindDrops acts b
behind_before acts a b low behind = record { desk = behind.desk; taken = act_before acts a _ b low behind.taken; no_drop = none_before acts a b _ behind.no_drop }

pub no_drop_last : (acts : List Act) (a : Act) (b : ℕ) → b < length acts → IsBehindDrops (acts ++ a ∷ []) b → IsDrop a.event → ⊥
no_drop_last acts a b low behind drop = behind.no_drop (length acts) a low (act_last acts a) drop

module _ (base : Graph) (on : IsOnBlocks base) where
  -- what is unclean after one act was so before it
  module _ (acts : List Act) (legal : IsLegal base acts) (a : Act) (may : IsAllowed base acts a) (b : ℕ) (low : b < length acts)
      (behind : IsBehindDrops (acts ++ a ∷ []) b) where
    here : IsStep base acts a.desk a.event (after base acts) (after base (acts ++ a ∷ []))
    here = step_of base on acts a may

    was_doomed : (to : Tid) → IsDoomedAt (after base (acts ++ a ∷ [])) to → IsDoomedAt (after base acts) to
    was_doomed to d =
        elim (here.doomed_back to d) as (λ _. IsDoomedAt (after base acts) to) [
          | inl was ↦ was
          | inr drop ↦ absurd (no_drop_last acts a b low behind drop)
        ]

    known_not_doomed : (at : Tid) → IsKnown base acts at → IsDoomedAt (after base acts) at → ⊥
    known_not_doomed at k d = live_not_doomed (after base acts) at k.layer (known_live base on acts legal b (behind_before acts a b low behind) k.desk at k.layer k.knows) d

    unclean_one : (at : Tid) (layer : ℕ) → IsUnclean (after base (acts ++ a ∷ [])) at layer → IsUnclean (after base acts) at layer
    unclean_one at layer u =
        let doomed = was_doomed u.to u.doomed in
        let alive : IsUndeletedAt (after base (acts ++ a ∷ [])) at = record { node = u.live.node; stands = u.live.stands; not_deleted = u.live.live.not_deleted } in
        elim (here.member_back at layer u.to alive u.member) as (λ _. IsUnclean (after base acts) at layer) [
          | inl was ↦ elim (here.live_back at layer u.live) as (λ _. IsUnclean (after base acts) at layer) [
            | inl live ↦ record { live = live; to = u.to; member = was.1; doomed = doomed }
            | inr new ↦ absurd (new was.0)
          ]
          | inr known ↦ absurd (known_not_doomed u.to (record { desk = a.desk; layer = layer; knows = known }) doomed)
        ]

    entry_one : IsEntryDoomed (after base (acts ++ a ∷ [])) → IsEntryDoomed (after base acts)
    entry_one u =
        let doomed = was_doomed u.to u.doomed in
        elim (here.entry_back u.to u.is) as (λ _. IsEntryDoomed (after base acts)) [
          | inl was ↦ record { to = u.to; is = was; doomed = doomed }
          | inr known ↦ absurd (known_not_doomed u.to known doomed)
        ]

  WasUnclean : List Act → Type 0
  WasUnclean acts = (b : ℕ) → IsBehindDrops acts b → (p : ℕ) → b < p → p ≤ length acts → (at : Tid) (layer : ℕ) → IsUnclean (after base acts) at layer
      → IsUnclean (state_after base acts p) at layer

  unclean_more : (acts : List Act) → IsLegal base acts → (a : Act) → IsAllowed base acts a → WasUnclean acts → WasUnclean (acts ++ a ∷ [])
  unfolding WasUnclean
  unclean_more acts legal a may was b behind p later met at layer u =
      elim (place_of acts a p met) as (λ _. IsUnclean (state_after base (acts ++ a ∷ []) p) at layer) [
        | inl before ↦
            let low : b < length acts = omega (arith, later, before) in
            subst (λ (h : Graph). IsUnclean h at layer) (sym (same_state base acts a p before))
            (was b (behind_before acts a b low behind) p later before at layer (unclean_one acts legal a may b low behind at layer u))
        | inr last ↦ subst (λ (h : Graph). IsUnclean h at layer) (sym (last_state base (acts ++ a ∷ []) p last)) u
      ]

  was_unclean : (acts : List Act) → IsLegal base acts → WasUnclean acts
  unfolding WasUnclean
  was_unclean = by_acts (IsAllowed base) WasUnclean unclean_more (λ b behind. absurd (none-some _ behind.taken))

  WasEntry : List Act → Type 0
  WasEntry acts = (b : ℕ) → IsBehindDrops acts b → (p : ℕ) → b < p → p ≤ length acts → IsEntryDoomed (after base acts) → IsEntryDoomed (state_after base acts p)

  entry_more : (acts : List Act) → IsLegal base acts → (a : Act) → IsAllowed base acts a → WasEntry acts → WasEntry (acts ++ a ∷ [])
  unfolding WasEntry
  entry_more acts legal a may was b behind p later met u =
      elim (place_of acts a p met) as (λ _. IsEntryDoomed (state_after base (acts ++ a ∷ []) p)) [
        | inl before ↦
            let low : b < length acts = omega (arith, later, before) in
            subst IsEntryDoomed (sym (same_state base acts a p before)) (was b (behind_before acts a b low behind) p later before (entry_one acts legal a may b low behind u))
        | inr last ↦ subst IsEntryDoomed (sym (last_state base (acts ++ a ∷ []) p last)) u
      ]

  was_entry : (acts : List Act) → IsLegal base acts → WasEntry acts
  unfolding WasEntry
  was_entry = by_acts (IsAllowed base) WasEntry entry_more (λ b behind. absurd (none-some _ behind.taken))

  -- ---- where all was cleaned

  module _ (acts : List Act) (legal : IsLegal base acts) (position : ℕ) (clean : IsCleanFrom base acts position) where
    pub members_clean : (at : Tid) (layer : ℕ) (to : Tid) → IsLiveAt (after base acts) at layer → HasMember (after base acts) at layer to → IsDoomedAt (after base acts) to → ⊥
    unfolding WasUnclean
    members_clean at layer to live member doomed =
        let now : IsUnclean (after base acts) at layer = record { live = live; to = to; member = member; doomed = doomed } in
        let first = was_unclean acts legal clean.barrier clean.behind (clean.barrier + 1) (omega arith) (omega (arith, clean.later, clean.met)) at layer now in
        let some = clean.cleaned.layers at layer first.live in
        let then = was_unclean acts legal clean.barrier clean.behind some.position (omega (arith, some.from_low)) (omega (arith, some.to_high, clean.met)) at layer now in
        some.is then.to then.member then.doomed

    pub entry_clean : (to : Tid) → (after base acts).entry ≡ Some to → IsDoomedAt (after base acts) to → ⊥
    unfolding WasEntry
    entry_clean to is doomed =
        let now : IsEntryDoomed (after base acts) = record { to = to; is = is; doomed = doomed } in
        let some = clean.cleaned.entry in
        let then = was_entry acts legal clean.barrier clean.behind some.position (omega (arith, some.from_low)) (omega (arith, some.to_high, clean.met)) now in
        some.is then.to then.is then.doomed
