-- What is asked of a desk, by the last test that decides it.
use Rattle.std.proofs.Common.{◌≡◌, ◌↔◌, ℕ, ◌<◌, ◌≤◌, List, length, Option, Some, refl, sym, ap, subst, ◌∙◌}
use Rattle.std.proofs.lemmas.Option.{same_Some}
use Rattle.index_sizes.specs.Sizes.{slots_of_level}
use Rattle.vec_names.specs.declared.tid.Tid.{Tid}
use Rattle.vec_names.specs.declared.params.Params.{Params}
use Rattle.vec_history.specs.declared.event.Act.{Act}
use Rattle.vec_history.specs.declared.gate.Gate.TheVariants.{Update}
use Rattle.vec_history.specs.Gates.{Holds}
use Rattle.vec_graph.specs.declared.node.Node.{Node}
use Rattle.vec_graph.specs.declared.graph.Graph.{Graph}
use Rattle.vec_graph.specs.Graph.{node_at, IsMember}
use Rattle.vec_graph.specs.Effect.{after}
use Rattle.vec_graph.specs.Knowing.{Knows}
use Rattle.vec_graph.specs.Rules.{KnowsMembers}
use Rattle.vec_graph.specs.Asking.{StandsSo, IsRelistAsked}
use Rattle.vec_graph.proofs.Asked.{same_params}
use Rattle.graph_search.specs.Insert.{most_in}
use Rattle.vec_steps.specs.Desks.{MayLink}

pub level_by : (g : Graph) (at list_at : Tid) (level : ℕ) (n : Node) → node_at g at ≡ Some n → n.list_at ≡ list_at
    → (n.level ≡ level) ↔ StandsSo g at list_at level
level_by g at list_at level n stands listed = (
  λ is. record { node = n; stands = stands; listed = listed; of_level = is },
  λ s. ap (λ (x : Node). x.level) (same_Some _ _ (sym stands ∙ s.stands)) ∙ s.of_level,
)

module _ (base : Graph) (acts : List Act) (desk : ℕ) where
  -- no act changes m
  pub named_by : (level : ℕ) (lists : List (Option Tid))
      → KnowsMembers base acts desk (after base acts).params.m level lists ↔ KnowsMembers base acts desk base.params.m level lists
  named_by level lists =
      let same : (after base acts).params.m ≡ base.params.m = ap (λ (p : Params). p.m) (same_params base acts) in (
        λ k. subst (λ (m : ℕ). (layer : ℕ) (to : Tid) → IsMember m level lists layer to → Knows base acts desk to layer) same k,
        λ k. subst (λ (m : ℕ). (layer : ℕ) (to : Tid) → IsMember m level lists layer to → Knows base acts desk to layer) (sym same) k,
      )

  pub relist_by : (g : Graph) → g ≡ after base acts → (at list_at : Tid) (lists : List (Option Tid)) (n : Node) → node_at g at ≡ Some n
      → Holds acts desk Update → n.list_at ≡ list_at → length lists ≡ slots_of_level base.params.m n.level
      → KnowsMembers base acts desk base.params.m n.level lists ↔ IsRelistAsked base acts desk at list_at lists
  relist_by g is at list_at lists n stands update listed many =
      let here : node_at (after base acts) at ≡ Some n = subst (λ (h : Graph). node_at h at ≡ Some n) is stands in (
        λ k. record {
          update = update;
          level = n.level;
          owner = record { node = n; stands = here; listed = listed; of_level = refl };
          as_many = many;
          known = k;
        },
        λ k.
            let same : k.owner.node ≡ n = same_Some _ _ (sym k.owner.stands ∙ here) in
            let level : k.level ≡ n.level = sym k.owner.of_level ∙ ap (λ (x : Node). x.level) same in
            subst (λ (l : ℕ). KnowsMembers base acts desk base.params.m l lists) level k.known,
      )

  pub link_by : (at list_at : Tid) (level layer slot : ℕ) (to : Tid) → Holds acts desk Update → StandsSo (after base acts) at list_at level
      → layer ≤ level → slot < most_in base.params.m layer → Knows base acts desk to layer ↔ MayLink base acts desk at list_at level layer slot to
  link_by at list_at level layer slot to update owner reaches inside = (
    λ k. record { update = update; owner = owner; reaches = reaches; slot_is = inside; known = k },
    λ may. may.known,
  )
