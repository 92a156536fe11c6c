-- What the node at a place says of a rule.
use Rattle.std.proofs.Common.{◌≡◌, ◌↔◌, ℕ, ◌≤◌, ◌<◌, ◌≢◌, ◌^◌, List, length, Option, Some, sym, subst, ◌∙◌}
use Rattle.std.proofs.lemmas.Option.{same_Some}
use Rattle.index_sizes.specs.declared.limits.TheConstants.{MOST_IDS}
use Rattle.vec_names.specs.declared.tid.Tid.{Tid}
use Rattle.vec_history.specs.declared.event.Act.{Act}
use Rattle.vec_history.specs.declared.gate.Gate.TheVariants.{Update}
use Rattle.vec_history.specs.declared.gate.Hold.TheVariants.{Alone}
use Rattle.vec_history.specs.declared.stage.Stage.TheVariants.{Remove, Mark}
use Rattle.vec_history.specs.Gates.{Holds, HoldsAs}
use Rattle.vec_history.specs.Phases.{IsInPhase}
use Rattle.vec_graph.specs.declared.node.Node.{Node}
use Rattle.vec_graph.specs.declared.graph.Graph.{Graph}
use Rattle.vec_graph.specs.Effect.{after}
use Rattle.vec_graph.specs.Graph.{node_at, IsDoomed, IsDoomedAt, IsLiveAt, HasLevel, slot_layer}
use Rattle.vec_graph.specs.Rules.{IsThere, KnowsMembers, IsJoinAllowed, IsLinkAllowed, IsRelistAllowed, IsDropAllowed, IsMarkAllowed, IsEntryAtAllowed, IsNoEntryAllowed, IsVacuumEndAllowed}
use Rattle.vec_graph.specs.Knowing.{Knows}

-- one node at most is there
pub same_there : (g : Graph) (at : Tid) (version : ℕ) (n m : Node) → IsThere g at version n → IsThere g at version m → n ≡ m
same_there g at version n m one other = same_Some _ _ (sym one.stands ∙ other.stands)

module _ (base : Graph) (acts : List Act) (g : Graph) (state : g ≡ after base acts) where
  here : (at : Tid) (version : ℕ) (n : Node) → IsThere g at version n → IsThere (after base acts) at version n
  here at version n there = subst (λ h. IsThere h at version n) state there

  pub join_by : (desk : ℕ) (at : Tid) (version : ℕ) (n : Node) → IsThere g at version n → Holds acts desk Update
      → ((1 ≤ length n.ids) × (length n.ids < MOST_IDS)) ↔ IsJoinAllowed base acts desk at version
  join_by desk at version n there update = (
    λ h. record { update = update; node = n; there = here at version n there; some = h.0; room = h.1 },
    λ may. subst (λ m. (1 ≤ length m.ids) × (length m.ids < MOST_IDS)) (same_there _ at version may.node n may.there (here at version n there)) (may.some, may.room),
  )

  pub drop_by : (desk : ℕ) (at : Tid) (version gone : ℕ) (n : Node) → IsThere g at version n → IsInPhase acts desk Remove
      → ((gone ≢ 0) × (gone < 2 ^ length n.ids)) ↔ IsDropAllowed base acts desk at version gone
  drop_by desk at version gone n there phase = (
    λ h. record { phase = phase; node = n; there = here at version n there; names_some = h.0; names_no_others = h.1 },
    λ may. (may.names_some, subst (λ m. gone < 2 ^ length m.ids) (same_there _ at version may.node n may.there (here at version n there)) may.names_no_others),
  )

  pub mark_by : (desk : ℕ) (at list_at : Tid) (version : ℕ) (n : Node) → IsThere g at version n → IsInPhase acts desk Mark
      → ((n.list_at ≡ list_at) × IsDoomed n) ↔ IsMarkAllowed base acts desk at list_at version
  mark_by desk at list_at version n there phase = (
    λ h. record { phase = phase; node = n; there = here at version n there; listed = h.0; doomed = h.1 },
    λ may. subst (λ (m : Node). (m.list_at ≡ list_at) × IsDoomed m) (same_there _ at version may.node n may.there (here at version n there)) (may.listed, may.doomed),
  )

  pub link_by : (desk : ℕ) (at list_at : Tid) (version slot : ℕ) (to : Tid) (n : Node) → IsThere g at version n → Holds acts desk Update
      → n.list_at ≡ list_at → slot < length n.slots
      → Knows base acts desk to (slot_layer g.params.m n.level slot) ↔ IsLinkAllowed base acts desk at list_at version slot to
  link_by desk at list_at version slot to n there update listed slot_is = (
    λ known. record {
      update = update;
      owner = n;
      there = here at version n there;
      listed = listed;
      slot_is = slot_is;
      known = subst (λ (h : Graph). Knows base acts desk to (slot_layer h.params.m n.level slot)) state known;
    },
    λ may. subst (λ (h : Graph). Knows base acts desk to (slot_layer h.params.m n.level slot)) (sym state)
        (subst (λ (m : Node). Knows base acts desk to (slot_layer (after base acts).params.m m.level slot)) (same_there _ at version may.owner n may.there (here at version n there)) may.known),
  )

  pub relist_by : (desk : ℕ) (at list_at : Tid) (version : ℕ) (lists : List (Option Tid)) (n : Node) → IsThere g at version n → Holds acts desk Update
      → n.list_at ≡ list_at → length lists ≡ length n.slots
      → KnowsMembers base acts desk (after base acts).params.m n.level lists ↔ IsRelistAllowed base acts desk at list_at version lists
  relist_by desk at list_at version lists n there update listed as_many = (
    λ known. record { update = update; owner = n; there = here at version n there; listed = listed; as_many = as_many; known = known },
    λ may. subst (λ (m : Node). KnowsMembers base acts desk (after base acts).params.m m.level lists) (same_there _ at version may.owner n may.there (here at version n there)) may.known,
  )

  pub entry_by : (desk : ℕ) (to : Tid) (level : ℕ) → HasLevel g to level → Holds acts desk Update
      → Knows base acts desk to level ↔ IsEntryAtAllowed base acts desk to level
  entry_by desk to level has update =
      let there = subst (λ h. HasLevel h to level) state has in
      (λ known. record { update = update; node = there.node; stands = there.stands; of_level = there.of_level; known = known }, λ may. may.known)

  pub no_entry_by : (desk level : ℕ) → HoldsAs acts desk Update Alone → level ≡ 0
      → ((at : Tid) → IsLiveAt g at 0 → ⊥) ↔ IsNoEntryAllowed base acts desk level
  no_entry_by desk level alone level_0 = (
    λ none. record { alone = alone; level_0 = level_0; none_live = λ at live. none at (subst (λ h. IsLiveAt h at 0) (sym state) live) },
    λ may at live. may.none_live at (subst (λ h. IsLiveAt h at 0) state live),
  )

  pub end_by : (desk : ℕ) → IsInPhase acts desk Mark → ((at : Tid) → IsDoomedAt g at → ⊥) ↔ IsVacuumEndAllowed base acts desk
  end_by desk phase = (
    λ none. record { phase = phase; none_doomed = λ at doomed. none at (subst (λ h. IsDoomedAt h at) (sym state) doomed) },
    λ may at doomed. may.none_doomed at (subst (λ h. IsDoomedAt h at) state doomed),
  )

pub level_by : (g : Graph) (at : Tid) (level : ℕ) (n : Node) → node_at g at ≡ Some n → (n.level ≡ level) ↔ HasLevel g at level
level_by g at level n stands = (
  λ of_level. record { node = n; stands = stands; of_level = of_level },
  λ has. subst (λ (m : Node). m.level ≡ level) (same_Some _ _ (sym has.stands ∙ stands)) has.of_level,
)
