-- What one allowed act leaves of a graph, in the few facts that the law rests on.
use Rattle.std.proofs.Common.{◌≡◌, ◌⊎◌, inl, inr, ℕ, zero, suc, ◌≤◌, false, List, [], ◌∷◌, ◌++◌, length, slice_get, slice_set, Option, Some, None, refl, sym, ap, subst, ◌∙◌, append_assoc, append-nil, arith, true≢false}
use Rattle.std.proofs.lemmas.Option.{same_Some, none-some}
use Rattle.list_values.specs.Masks.{kept}
use Rattle.vec_names.specs.declared.tid.Tid.{Tid}
use Rattle.vec_names.specs.declared.heap_id.HeapId.{HeapId}
use Rattle.vec_history.specs.declared.event.Event.{Event}
use Rattle.vec_history.specs.declared.event.Event.TheVariants.{Put, Join, Link, Relist, Drop, Mark, Entry, Hint, IvfAdd, IvfGrow, IvfDrop, IvfHint, Gate, Ungate, Phase, VacuumEnd, Cancel, Settled, DiskFaulted}
use Rattle.vec_history.specs.declared.event.Act.{Act}
use Rattle.vec_history.specs.declared.stage.Stage.TheVariants as stages
use Rattle.vec_history.specs.Phases.{IsInPhase, IsDrop}
use Rattle.vec_graph.specs.declared.place.Place.{Place}
use Rattle.vec_graph.specs.declared.node.Node.{Node}
use Rattle.vec_graph.specs.declared.graph.Graph.{Graph}
use Rattle.vec_graph.specs.Graph.{node_at, IsLive, IsLiveAt, IsDoomed, IsDoomedAt, IsUndeletedAt, IsMember, HasMember, slot_layer}
use Rattle.vec_graph.specs.Places.{IsOnBlocks, IsFree}
use Rattle.vec_graph.specs.Effect.{NewNode, put_of, node_of, effect, after, with_node, with_new, changed, changed_from, joined, linked, relisted, dropped, marked}
use Rattle.vec_graph.specs.Knowing.{Knows, IsKnown}
use Rattle.vec_graph.specs.Lasting.{IsMarkAt, IsIdsEndAt, IsSame, IsSameAt, HasIdsAt}
use Rattle.vec_graph.specs.Asking.{StandsSo}
use Rattle.vec_graph.specs.Rules.{IsEventAllowed, IsPutAllowed, IsJoinAllowed, IsLinkAllowed, IsRelistAllowed, IsMarkAllowed, IsEntryAllowed}
use Rattle.vec_graph.proofs.Placing.{after_insert, free_place, same_list}
use Rattle.vec_graph.proofs.Remaining.{has_inserted}

-- ---- lists

set_gives : {X : Type 0} (xs : List X) (i : ℕ) (v : X) (j : ℕ) (x : X) → slice_get (slice_set xs i v) j ≡ Some x → (slice_get xs j ≡ Some x) ⊎ ((j ≡ i) × (v ≡ x))
set_gives [] i v j x e = inl e
set_gives (y ∷ ys) zero v zero x e = inr (refl, same_Some v x e)
set_gives (y ∷ ys) zero v (suc j) x e = inl e
set_gives (y ∷ ys) (suc i) v zero x e = inl e
set_gives (y ∷ ys) (suc i) v (suc j) x e =
    elim (set_gives ys i v j x e) [
      | inl there ↦ inl there
      | inr here ↦ inr (ap (λ (n : ℕ). suc n) here.0, here.1)
    ]

not_empty : {X : Type 0} (xs : List X) (x : X) → xs ++ x ∷ [] ≡ [] → ⊥
not_empty [] x e = absurd cc
not_empty (y ∷ ys) x e = absurd cc

-- ---- the facts

-- of the graph before and after the act
pub record IsStep (base : Graph) (acts : List Act) (desk : ℕ) (e : Event) (g g' : Graph) : Type 0 where
  pub member_back : (at : Tid) (layer : ℕ) (to : Tid) → IsUndeletedAt g' at → HasMember g' at layer to
      → (IsUndeletedAt g at × HasMember g at layer to) ⊎ Knows base acts desk to layer
  pub entry_back : (at : Tid) → g'.entry ≡ Some at → (g.entry ≡ Some at) ⊎ IsKnown base acts at
  pub live_back : (at : Tid) (layer : ℕ) → IsLiveAt g' at layer → IsLiveAt g at layer ⊎ (IsUndeletedAt g at → ⊥)
  pub doomed_back : (at : Tid) → IsDoomedAt g' at → IsDoomedAt g at ⊎ IsDrop e
  pub doomed_on : (at : Tid) → IsDoomedAt g at → IsDoomedAt g' at ⊎ IsMarkAt at e
  pub live_on : (at : Tid) (layer : ℕ) → IsLiveAt g at layer → IsLiveAt g' at layer ⊎ IsDrop e
  pub same_on : (at : Tid) (n : Node) → node_at g at ≡ Some n → n.deleted ≡ false → IsSameAt g' at n ⊎ IsMarkAt at e
  pub undeleted_on : (at : Tid) → IsUndeletedAt g at → IsUndeletedAt g' at ⊎ (IsDoomedAt g at × IsInPhase acts desk stages.Mark)
  pub placed_on : (at list_at : Tid) (level : ℕ) → StandsSo g at list_at level → StandsSo g' at list_at level
  pub ids_on : (at : Tid) (ids : List HeapId) → HasIdsAt g at ids → HasIdsAt g' at ids ⊎ IsIdsEndAt at e

-- a node that is not deleted and has the ids of another one first
pub record IsFrontOf (n0 n1 : Node) : Type 0 where
  pub not_deleted : n1.deleted ≡ false
  pub more : List HeapId
  pub front : n1.ids ≡ n0.ids ++ more

front_self : (n0 n1 : Node) → n1.deleted ≡ false → n1.ids ≡ n0.ids → IsFrontOf n0 n1
front_self n0 n1 alive same = record { not_deleted = alive; more = []; front = same ∙ sym (append-nil n0.ids) }

-- of one node before and after it
pub record IsNodeStep (base : Graph) (acts : List Act) (desk : ℕ) (e : Event) (m : ℕ) (at : Tid) (n0 n1 : Node) : Type 0 where
  pub level : n1.level ≡ n0.level
  pub undeleted_back : n1.deleted ≡ false → n0.deleted ≡ false
  pub member_back : (layer : ℕ) (to : Tid) → n1.deleted ≡ false → IsMember m n1.level n1.slots layer to
      → IsMember m n0.level n0.slots layer to ⊎ Knows base acts desk to layer
  pub live_back : IsLive n1 → IsLive n0
  pub doomed_back : IsDoomed n1 → IsDoomed n0 ⊎ IsDrop e
  pub doomed_on : IsDoomed n0 → IsDoomed n1 ⊎ IsMarkAt at e
  pub live_on : IsLive n0 → IsLive n1 ⊎ IsDrop e
  pub same_on : n0.deleted ≡ false → IsSame n0 n1 ⊎ IsMarkAt at e
  pub undeleted_on : n0.deleted ≡ false → (n1.deleted ≡ false) ⊎ (IsDoomed n0 × IsInPhase acts desk stages.Mark)
  pub list_at : n1.list_at ≡ n0.list_at
  pub ids_on : n0.deleted ≡ false → IsFrontOf n0 n1 ⊎ IsIdsEndAt at e

same_self : (n : Node) → n.deleted ≡ false → IsSame n n
same_self n alive = record { level = refl; version = refl; list_at = refl; bits = refl; not_deleted = alive }

-- ---- another node at a place

module _ (g : Graph) (at : Tid) (n0 n1 : Node) (there : node_at g at ≡ Some n0) where
  forward : (q : Tid) (p : Node) → node_at g q ≡ Some p → (node_at (with_node g at n1) q ≡ Some p) ⊎ ((p ≡ n0) × (node_at (with_node g at n1) q ≡ Some n1) × (q ≡ at))
  forward q p stands =
      let now = has_inserted (λ n. (n ≡ p) ⊎ ((p ≡ n0) × (n ≡ n1))) g.nodes at n1
      (λ m is was. elim was as (λ _. (n1 ≡ p) ⊎ ((p ≡ n0) × (n1 ≡ n1))) [
        | inl same ↦ inr (sym same ∙ same_Some _ _ (sym is ∙ there), refl)
        | inr other ↦ inr (other.0, refl)
      ]) q (record { node = p; stands = stands; is = inl refl }) in
      elim now.is as (λ _. (node_at (with_node g at n1) q ≡ Some p) ⊎ ((p ≡ n0) × (node_at (with_node g at n1) q ≡ Some n1) × (q ≡ at))) [
        | inl same ↦ inl (now.stands ∙ ap (λ (n : Node). Some n) same)
        | inr other ↦
            let stands_now : node_at (with_node g at n1) q ≡ Some n1 = now.stands ∙ ap (λ (n : Node). Some n) other.1 in
            elim (after_insert g at n1 q n1 stands_now) as (λ _. (node_at (with_node g at n1) q ≡ Some p) ⊎ ((p ≡ n0) × (node_at (with_node g at n1) q ≡ Some n1) × (q ≡ at))) [
              | inl same ↦ inr (other.0, stands_now, same.0)
              | inr stood ↦ inl (stands_now ∙ sym stood ∙ stands)
            ]
      ]

  backward : (q : Tid) (p : Node) → node_at (with_node g at n1) q ≡ Some p → (node_at g q ≡ Some p) ⊎ ((p ≡ n1) × (node_at g q ≡ Some n0))
  backward q p stands =
      elim (after_insert g at n1 q p stands) as (λ _. (node_at g q ≡ Some p) ⊎ ((p ≡ n1) × (node_at g q ≡ Some n0))) [
        | inl same ↦ inr (same.1, subst (λ (t : Tid). node_at g t ≡ Some n0) (sym same.0) there)
        | inr stood ↦ inl stood
      ]

  module _ (base : Graph) (acts : List Act) (desk : ℕ) (e : Event) (s : IsNodeStep base acts desk e g.params.m at n0 n1) where
    step_member : (q : Tid) (layer : ℕ) (to : Tid) → IsUndeletedAt (with_node g at n1) q → HasMember (with_node g at n1) q layer to
        → (IsUndeletedAt g q × HasMember g q layer to) ⊎ Knows base acts desk to layer
    step_member q layer to alive has =
        let not_deleted : has.node.deleted ≡ false = subst (λ (n : Node). n.deleted ≡ false) (same_Some _ _ (sym alive.stands ∙ has.stands)) alive.not_deleted in
        elim (backward q has.node has.stands) as (λ _. (IsUndeletedAt g q × HasMember g q layer to) ⊎ Knows base acts desk to layer) [
          | inl stood ↦ inl (record { node = has.node; stands = stood; not_deleted = not_deleted }, record { node = has.node; stands = stood; member = has.member })
          | inr other ↦
              let kept_so : n1.deleted ≡ false = subst (λ (n : Node). n.deleted ≡ false) other.0 not_deleted in
              elim (s.member_back layer to kept_so (subst (λ (n : Node). IsMember g.params.m n.level n.slots layer to) other.0 has.member))
              as (λ _. (IsUndeletedAt g q × HasMember g q layer to) ⊎ Knows base acts desk to layer) [
                | inl was ↦ inl (record { node = n0; stands = other.1; not_deleted = s.undeleted_back kept_so }, record { node = n0; stands = other.1; member = was })
                | inr known ↦ inr known
              ]
        ]

    step_live_back : (q : Tid) (layer : ℕ) → IsLiveAt (with_node g at n1) q layer → IsLiveAt g q layer
    step_live_back q layer l =
        elim (backward q l.node l.stands) as (λ _. IsLiveAt g q layer) [
          | inl stood ↦ record { node = l.node; stands = stood; live = l.live; reaches = l.reaches }
          | inr other ↦ record {
            node = n0;
            stands = other.1;
            live = s.live_back (subst IsLive other.0 l.live);
            reaches = subst (λ (k : ℕ). layer ≤ k) (ap (λ (n : Node). n.level) other.0 ∙ s.level) l.reaches;
          }
        ]

    step_doomed_back : (q : Tid) → IsDoomedAt (with_node g at n1) q → IsDoomedAt g q ⊎ IsDrop e
    step_doomed_back q d =
        elim (backward q d.node d.stands) as (λ _. IsDoomedAt g q ⊎ IsDrop e) [
          | inl stood ↦ inl (record { node = d.node; stands = stood; doomed = d.doomed })
          | inr other ↦ elim (s.doomed_back (subst IsDoomed other.0 d.doomed)) as (λ _. IsDoomedAt g q ⊎ IsDrop e) [
            | inl was ↦ inl (record { node = n0; stands = other.1; doomed = was })
            | inr drop ↦ inr drop
          ]
        ]

    step_doomed_on : (q : Tid) → IsDoomedAt g q → IsDoomedAt (with_node g at n1) q ⊎ IsMarkAt q e
    step_doomed_on q d =
        elim (forward q d.node d.stands) as (λ _. IsDoomedAt (with_node g at n1) q ⊎ IsMarkAt q e) [
          | inl stood ↦ inl (record { node = d.node; stands = stood; doomed = d.doomed })
          | inr other ↦ elim (s.doomed_on (subst IsDoomed other.0 d.doomed)) as (λ _. IsDoomedAt (with_node g at n1) q ⊎ IsMarkAt q e) [
            | inl now ↦ inl (record { node = n1; stands = other.1; doomed = now })
            | inr mark ↦ inr (subst (λ (t : Tid). IsMarkAt t e) (sym other.2) mark)
          ]
        ]

    step_live_on : (q : Tid) (layer : ℕ) → IsLiveAt g q layer → IsLiveAt (with_node g at n1) q layer ⊎ IsDrop e
    step_live_on q layer l =
        elim (forward q l.node l.stands) as (λ _. IsLiveAt (with_node g at n1) q layer ⊎ IsDrop e) [
          | inl stood ↦ inl (record { node = l.node; stands = stood; live = l.live; reaches = l.reaches })
          | inr other ↦ elim (s.live_on (subst IsLive other.0 l.live)) as (λ _. IsLiveAt (with_node g at n1) q layer ⊎ IsDrop e) [
            | inl now ↦ inl (record {
              node = n1;
              stands = other.1;
              live = now;
              reaches = subst (λ (k : ℕ). layer ≤ k) (ap (λ (n : Node). n.level) other.0 ∙ sym s.level) l.reaches;
            })
            | inr drop ↦ inr drop
          ]
        ]

    step_undeleted_on : (q : Tid) → IsUndeletedAt g q → IsUndeletedAt (with_node g at n1) q ⊎ (IsDoomedAt g q × IsInPhase acts desk stages.Mark)
    step_undeleted_on q u =
        elim (forward q u.node u.stands) as (λ _. IsUndeletedAt (with_node g at n1) q ⊎ (IsDoomedAt g q × IsInPhase acts desk stages.Mark)) [
          | inl stood ↦ inl (record { node = u.node; stands = stood; not_deleted = u.not_deleted })
          | inr other ↦ elim (s.undeleted_on (subst (λ (n : Node). n.deleted ≡ false) other.0 u.not_deleted))
              as (λ _. IsUndeletedAt (with_node g at n1) q ⊎ (IsDoomedAt g q × IsInPhase acts desk stages.Mark)) [
                | inl now ↦ inl (record { node = n1; stands = other.1; not_deleted = now })
                | inr mark ↦ inr (record { node = u.node; stands = u.stands; doomed = subst IsDoomed (sym other.0) mark.0 }, mark.1)
              ]
        ]

    step_same_on : (q : Tid) (n : Node) → node_at g q ≡ Some n → n.deleted ≡ false → IsSameAt (with_node g at n1) q n ⊎ IsMarkAt q e
    step_same_on q n stands alive =
        elim (forward q n stands) as (λ _. IsSameAt (with_node g at n1) q n ⊎ IsMarkAt q e) [
          | inl stood ↦ inl (record { node = n; stands = stood; same = same_self n alive })
          | inr other ↦ elim (s.same_on (subst (λ (k : Node). k.deleted ≡ false) other.0 alive)) as (λ _. IsSameAt (with_node g at n1) q n ⊎ IsMarkAt q e) [
            | inl same ↦ inl (record { node = n1; stands = other.1; same = subst (λ (k : Node). IsSame k n1) (sym other.0) same })
            | inr mark ↦ inr (subst (λ (t : Tid). IsMarkAt t e) (sym other.2) mark)
          ]
        ]

    step_placed_on : (q list_at : Tid) (level : ℕ) → StandsSo g q list_at level → StandsSo (with_node g at n1) q list_at level
    step_placed_on q list_at level h =
        elim (forward q h.node h.stands) as (λ _. StandsSo (with_node g at n1) q list_at level) [
          | inl stood ↦ record { node = h.node; stands = stood; listed = h.listed; of_level = h.of_level }
          | inr other ↦ record {
            node = n1;
            stands = other.1;
            listed = s.list_at ∙ sym (ap (λ (n : Node). n.list_at) other.0) ∙ h.listed;
            of_level = s.level ∙ sym (ap (λ (n : Node). n.level) other.0) ∙ h.of_level;
          }
        ]

    step_ids_on : (q : Tid) (ids : List HeapId) → HasIdsAt g q ids → HasIdsAt (with_node g at n1) q ids ⊎ IsIdsEndAt q e
    step_ids_on q ids h =
        elim (forward q h.node h.stands) as (λ _. HasIdsAt (with_node g at n1) q ids ⊎ IsIdsEndAt q e) [
          | inl stood ↦ inl (record { node = h.node; stands = stood; not_deleted = h.not_deleted; more = h.more; front = h.front })
          | inr other ↦ elim (s.ids_on (subst (λ (k : Node). k.deleted ≡ false) other.0 h.not_deleted)) as (λ _. HasIdsAt (with_node g at n1) q ids ⊎ IsIdsEndAt q e) [
            | inl f ↦ inl (record {
              node = n1;
              stands = other.1;
              not_deleted = f.not_deleted;
              more = h.more ++ f.more;
              front = f.front ∙ ap (λ (l : List HeapId). l ++ f.more) (sym (ap (λ (n : Node). n.ids) other.0) ∙ h.front) ∙ append_assoc ids h.more f.more;
            })
            | inr ends ↦ inr (subst (λ (t : Tid). IsIdsEndAt t e) (sym other.2) ends)
          ]
        ]

    with_node_step : IsStep base acts desk e g (with_node g at n1)
    with_node_step = record {
      member_back = step_member;
      entry_back = λ q is. inl is;
      live_back = λ q layer l. inl (step_live_back q layer l);
      doomed_back = step_doomed_back;
      doomed_on = step_doomed_on;
      live_on = step_live_on;
      same_on = step_same_on;
      undeleted_on = step_undeleted_on;
      placed_on = step_placed_on;
      ids_on = step_ids_on;
    }

-- ---- each event

module _ (base : Graph) (acts : List Act) (on : IsOnBlocks (after base acts)) (desk : ℕ) where
  g : Graph
  g = after base acts

  -- nodes and entry stay
  same_step : (e : Event) → IsStep base acts desk e g g
  same_step e = record {
    member_back = λ at layer to alive has. inl (alive, has);
    entry_back = λ at is. inl is;
    live_back = λ at layer l. inl l;
    doomed_back = λ at d. inl d;
    doomed_on = λ at d. inl d;
    live_on = λ at layer l. inl l;
    same_on = λ at n stands alive. inl (record { node = n; stands = stands; same = same_self n alive });
    undeleted_on = λ at u. inl u;
    placed_on = λ at list_at level h. record { node = h.node; stands = h.stands; listed = h.listed; of_level = h.of_level };
    ids_on = λ at ids h. inl (record { node = h.node; stands = h.stands; not_deleted = h.not_deleted; more = h.more; front = h.front });
  }

  hint_step : (e : Event) (block : ℕ) → IsStep base acts desk e g (record g { hint = block })
  hint_step e block = record {
    member_back = λ at layer to alive has.
        inl (record { node = alive.node; stands = alive.stands; not_deleted = alive.not_deleted }, record { node = has.node; stands = has.stands; member = has.member });
    entry_back = λ at is. inl is;
    live_back = λ at layer l. inl (record { node = l.node; stands = l.stands; live = l.live; reaches = l.reaches });
    doomed_back = λ at d. inl (record { node = d.node; stands = d.stands; doomed = d.doomed });
    doomed_on = λ at d. inl (record { node = d.node; stands = d.stands; doomed = d.doomed });
    live_on = λ at layer l. inl (record { node = l.node; stands = l.stands; live = l.live; reaches = l.reaches });
    same_on = λ at n stands alive. inl (record { node = n; stands = stands; same = same_self n alive });
    undeleted_on = λ at u. inl (record { node = u.node; stands = u.stands; not_deleted = u.not_deleted });
    placed_on = λ at list_at level h. record { node = h.node; stands = h.stands; listed = h.listed; of_level = h.of_level };
    ids_on = λ at ids h. inl (record { node = h.node; stands = h.stands; not_deleted = h.not_deleted; more = h.more; front = h.front });
  }

  entry_known : (to : Option Tid) (level : ℕ) → IsEntryAllowed base acts desk to level → (at : Tid) → to ≡ Some at → IsKnown base acts at
  entry_known None level may at is = absurd (none-some at is)
  entry_known (Some to) level may at is = subst (λ (t : Tid). IsKnown base acts t) (same_Some _ _ is) (record { desk = desk; layer = level; knows = may.known })

  entry_step : (e : Event) (to : Option Tid) (level : ℕ) → IsEntryAllowed base acts desk to level → IsStep base acts desk e g (record g { entry = to; level = level })
  entry_step e to level may = record {
    member_back = λ at layer t alive has.
        inl (record { node = alive.node; stands = alive.stands; not_deleted = alive.not_deleted }, record { node = has.node; stands = has.stands; member = has.member });
    entry_back = λ at is. inr (entry_known to level may at is);
    live_back = λ at layer l. inl (record { node = l.node; stands = l.stands; live = l.live; reaches = l.reaches });
    doomed_back = λ at d. inl (record { node = d.node; stands = d.stands; doomed = d.doomed });
    doomed_on = λ at d. inl (record { node = d.node; stands = d.stands; doomed = d.doomed });
    live_on = λ at layer l. inl (record { node = l.node; stands = l.stands; live = l.live; reaches = l.reaches });
    same_on = λ at n stands alive. inl (record { node = n; stands = stands; same = same_self n alive });
    undeleted_on = λ at u. inl (record { node = u.node; stands = u.stands; not_deleted = u.not_deleted });
    placed_on = λ at list_at level h. record { node = h.node; stands = h.stands; listed = h.listed; of_level = h.of_level };
    ids_on = λ at ids h. inl (record { node = h.node; stands = h.stands; not_deleted = h.not_deleted; more = h.more; front = h.front });
  }

  by_node : (e : Event) (at : Tid) (change : Node → Node) (n : Node) → node_at g at ≡ Some n → IsNodeStep base acts desk e g.params.m at n (change n)
      → IsStep base acts desk e g (changed g at change)
  by_node e at change n there s =
      subst (λ (h : Graph). IsStep base acts desk e g h) (sym (ap (changed_from g at change) there)) (with_node_step g at n (change n) there base acts desk e s)

  join_node : (at : Tid) (version : ℕ) (id : HeapId) (may : IsJoinAllowed base acts desk at version) → IsNodeStep base acts desk (Join at version id) g.params.m at may.node (joined id may.node)
  join_node at version id may = record {
    level = refl;
    undeleted_back = λ d. d;
    member_back = λ layer to _ m. inl m;
    live_back = λ l. record { not_deleted = l.not_deleted; has_ids = λ none. absurd (let n : length may.node.ids ≡ 0 = ap (λ (l : List HeapId). length l) none in omega (arith, may.some, n)) };
    doomed_back = λ d. absurd (not_empty may.node.ids id d.no_ids);
    doomed_on = λ d. absurd (let n : length may.node.ids ≡ 0 = ap (λ (l : List HeapId). length l) d.no_ids in omega (arith, may.some, n));
    live_on = λ l. inl (record { not_deleted = l.not_deleted; has_ids = λ none. not_empty may.node.ids id none });
    same_on = λ alive. inl (record { level = refl; version = refl; list_at = refl; bits = refl; not_deleted = alive });
    undeleted_on = λ d. inl d;
    list_at = refl;
    ids_on = λ alive. inl (record { not_deleted = alive; more = id ∷ []; front = refl });
  }

  link_node : (at list_at : Tid) (version slot : ℕ) (to : Tid) (may : IsLinkAllowed base acts desk at list_at version slot to)
      → IsNodeStep base acts desk (Link at list_at version slot to) g.params.m at may.owner (linked slot to may.owner)
  unfolding g
  link_node at list_at version slot to may = record {
    level = refl;
    undeleted_back = λ d. d;
    member_back = λ layer q _ m.
        elim (set_gives may.owner.slots slot (Some to) m.slot (Some q) m.names) as (λ _. IsMember (after base acts).params.m may.owner.level may.owner.slots layer q ⊎ Knows base acts desk q layer) [
          | inl was ↦ inl (record { slot = m.slot; names = was; within = m.within })
          | inr here ↦
              let same : slot_layer (after base acts).params.m may.owner.level slot ≡ layer = ap (slot_layer (after base acts).params.m may.owner.level) (sym here.0) ∙ m.within in
              inr (subst (λ (t : Tid). Knows base acts desk t layer) (same_Some _ _ here.1) (subst (λ (l : ℕ). Knows base acts desk to l) same may.known))
        ];
    live_back = λ l. record { not_deleted = l.not_deleted; has_ids = l.has_ids };
    doomed_back = λ d. inl (record { not_deleted = d.not_deleted; no_ids = d.no_ids });
    doomed_on = λ d. inl (record { not_deleted = d.not_deleted; no_ids = d.no_ids });
    live_on = λ l. inl (record { not_deleted = l.not_deleted; has_ids = l.has_ids });
    same_on = λ alive. inl (record { level = refl; version = refl; list_at = refl; bits = refl; not_deleted = alive });
    undeleted_on = λ d. inl d;
    list_at = refl;
    ids_on = λ alive. inl (front_self may.owner (linked slot to may.owner) alive refl);
  }

  relist_node : (at list_at : Tid) (version : ℕ) (lists : List (Option Tid)) (may : IsRelistAllowed base acts desk at list_at version lists)
      → IsNodeStep base acts desk (Relist at list_at version lists) g.params.m at may.owner (relisted lists may.owner)
  unfolding g
  relist_node at list_at version lists may = record {
    level = refl;
    undeleted_back = λ d. d;
    member_back = λ layer q _ m. inr (may.known layer q m);
    live_back = λ l. record { not_deleted = l.not_deleted; has_ids = l.has_ids };
    doomed_back = λ d. inl (record { not_deleted = d.not_deleted; no_ids = d.no_ids });
    doomed_on = λ d. inl (record { not_deleted = d.not_deleted; no_ids = d.no_ids });
    live_on = λ l. inl (record { not_deleted = l.not_deleted; has_ids = l.has_ids });
    same_on = λ alive. inl (record { level = refl; version = refl; list_at = refl; bits = refl; not_deleted = alive });
    undeleted_on = λ d. inl d;
    list_at = refl;
    ids_on = λ alive. inl (front_self may.owner (relisted lists may.owner) alive refl);
  }

  drop_node : (at : Tid) (version gone : ℕ) (n : Node) → IsNodeStep base acts desk (Drop at version gone) g.params.m at n (dropped gone n)
  drop_node at version gone n = record {
    level = refl;
    undeleted_back = λ d. d;
    member_back = λ layer q _ m. inl m;
    live_back = λ l. record { not_deleted = l.not_deleted; has_ids = λ none. l.has_ids (ap (kept gone) none) };
    doomed_back = λ d. inr tt;
    doomed_on = λ d. inl (record { not_deleted = d.not_deleted; no_ids = ap (kept gone) d.no_ids });
    live_on = λ l. inr tt;
    same_on = λ alive. inl (record { level = refl; version = refl; list_at = refl; bits = refl; not_deleted = alive });
    undeleted_on = λ d. inl d;
    list_at = refl;
    ids_on = λ alive. inr (inr refl);
  }

  mark_node : (at list_at : Tid) (version : ℕ) (may : IsMarkAllowed base acts desk at list_at version)
      → IsNodeStep base acts desk (Mark at list_at version) g.params.m at may.node (marked 255 may.node)
  mark_node at list_at version may = record {
    level = refl;
    undeleted_back = λ d. absurd (true≢false d);
    member_back = λ layer q d m. absurd (true≢false d);
    live_back = λ l. absurd (true≢false l.not_deleted);
    doomed_back = λ d. absurd (true≢false d.not_deleted);
    doomed_on = λ d. inr refl;
    live_on = λ l. absurd (l.has_ids may.doomed.no_ids);
    same_on = λ alive. inr refl;
    undeleted_on = λ d. inr (may.doomed, may.phase);
    list_at = refl;
    ids_on = λ alive. inr (inl refl);
  }

  -- a new node: none stood there that is not deleted
  module _ (brought : NewNode) (may : IsPutAllowed base acts desk brought) where
    put : Event
    put = put_of brought

    new : Node
    new = node_of brought

    free : IsFree (after base acts) brought.at brought.level
    free = free_place (after base acts) brought.at brought.level (record { at = brought.at; list_at = brought.list_at; version = brought.version }) on may.placed

    none_there : (q : Tid) → q ≡ brought.at → IsUndeletedAt (after base acts) q → ⊥
    none_there q same u =
        let at_place : node_at (after base acts) brought.at ≡ Some u.node = subst (λ (t : Tid). node_at (after base acts) t ≡ Some u.node) same u.stands in
        true≢false (sym (free u.node at_place).0 ∙ u.not_deleted)

    put_graph : Graph
    put_graph = with_new (after base acts) brought

    stands_on : (q : Tid) → IsUndeletedAt (after base acts) q → (n : Node) → node_at (after base acts) q ≡ Some n → node_at put_graph q ≡ Some n
    unfolding put_graph
    stands_on q u n stands =
        let now = has_inserted (λ m. m ≡ n) (after base acts).nodes brought.at _
        (λ m is same.
        let was : node_at (after base acts) brought.at ≡ Some m = is in
        absurd (true≢false (sym (free m was).0 ∙ ap (λ (k : Node). k.deleted) same ∙ subst (λ (k : Node). k.deleted ≡ false) (same_Some _ _ (sym u.stands ∙ stands)) u.not_deleted)))
        q (record { node = n; stands = stands; is = refl }) in
        now.stands ∙ ap (λ (k : Node). Some k) now.is

    stood : (q : Tid) (n : Node) → node_at put_graph q ≡ Some n → ((q ≡ brought.at) × (n ≡ new)) ⊎ (node_at (after base acts) q ≡ Some n)
    unfolding put_graph new
    stood q n stands = after_insert (after base acts) brought.at new q n stands

    put_step : IsStep base acts desk put (after base acts) put_graph
    unfolding put_graph new put
    put_step = record {
      member_back = λ q layer to alive has.
          elim (stood q has.node has.stands) as (λ _. (IsUndeletedAt (after base acts) q × HasMember (after base acts) q layer to) ⊎ Knows base acts desk to layer) [
            | inl same ↦ inr (may.known layer to (subst (λ (n : Node). IsMember (after base acts).params.m n.level n.slots layer to) same.1 has.member))
            | inr was ↦ inl (
              record { node = has.node; stands = was; not_deleted = subst (λ (n : Node). n.deleted ≡ false) (same_Some _ _ (sym alive.stands ∙ has.stands)) alive.not_deleted },
              record { node = has.node; stands = was; member = has.member },
            )
          ];
      entry_back = λ q is. inl is;
      live_back = λ q layer l.
          elim (stood q l.node l.stands) as (λ _. IsLiveAt (after base acts) q layer ⊎ (IsUndeletedAt (after base acts) q → ⊥)) [
            | inl same ↦ inr (none_there q same.0)
            | inr was ↦ inl (record { node = l.node; stands = was; live = l.live; reaches = l.reaches })
          ];
      doomed_back = λ q d.
          elim (stood q d.node d.stands) as (λ _. IsDoomedAt (after base acts) q ⊎ ⊥) [
            | inl same ↦ absurd (not_empty [] brought.id (sym (ap (λ (n : Node). n.ids) same.1) ∙ d.doomed.no_ids))
            | inr was ↦ inl (record { node = d.node; stands = was; doomed = d.doomed })
          ];
      doomed_on = λ q d. inl (record { node = d.node; stands = stands_on q (record { node = d.node; stands = d.stands; not_deleted = d.doomed.not_deleted }) d.node d.stands; doomed = d.doomed });
      live_on = λ q layer l.
          inl (record {
            node = l.node;
            stands = stands_on q (record { node = l.node; stands = l.stands; not_deleted = l.live.not_deleted }) l.node l.stands;
            live = l.live;
            reaches = l.reaches;
          });
      same_on = λ q n stands alive. inl (record { node = n; stands = stands_on q (record { node = n; stands = stands; not_deleted = alive }) n stands; same = same_self n alive });
      undeleted_on = λ q u. inl (record { node = u.node; stands = stands_on q u u.node u.stands; not_deleted = u.not_deleted });
      placed_on = λ q list_q high h.
          let spot : Place = record { at = brought.at; list_at = brought.list_at; version = brought.version } in
          let now = has_inserted (λ (n : Node). (n.list_at ≡ list_q) × (n.level ≡ high)) (after base acts).nodes brought.at new
          (λ m is was. (sym (same_list (after base acts) brought.at brought.level spot on may.placed m is) ∙ was.0, sym (free m is).1 ∙ was.1))
          q (record { node = h.node; stands = h.stands; is = (h.listed, h.of_level) }) in
          record { node = now.node; stands = now.stands; listed = now.is.0; of_level = now.is.1 };
      ids_on = λ q ids h.
          inl (record {
            node = h.node;
            stands = stands_on q (record { node = h.node; stands = h.stands; not_deleted = h.not_deleted }) h.node h.stands;
            not_deleted = h.not_deleted;
            more = h.more;
            front = h.front;
          });
    }

  pub step : (e : Event) → IsEventAllowed base acts desk e → IsStep base acts desk e (after base acts) (effect 255 e (after base acts))
  unfolding g put_graph put
  step (Put at list_at version level id bits lists) may = put_step _ may
  step (Join at version id) may = by_node _ at (joined id) may.node may.there.stands (join_node at version id may)
  step (Link at list_at version slot to) may = by_node _ at (linked slot to) may.owner may.there.stands (link_node at list_at version slot to may)
  step (Relist at list_at version lists) may = by_node _ at (relisted lists) may.owner may.there.stands (relist_node at list_at version lists may)
  step (Drop at version gone) may = by_node _ at (dropped gone) may.node may.there.stands (drop_node at version gone may.node)
  step (Mark at list_at version) may = by_node _ at (marked 255) may.node may.there.stands (mark_node at list_at version may)
  step (Entry to level) may = entry_step _ to level may
  step (Hint block) may = hint_step _ block
  step (IvfAdd block id bits) may = absurd may
  step (IvfGrow list last block id bits) may = absurd may
  step (IvfDrop block gone) may = absurd may
  step (IvfHint list block) may = absurd may
  step (Gate gate hold) may = same_step _
  step (Ungate gate) may = same_step _
  step (Phase stage) may = same_step _
  step VacuumEnd may = same_step _
  step (Cancel stage) may = same_step _
  step (Settled upto) may = same_step _
  step (DiskFaulted count) may = same_step _
