-- What the node at a place says of the place.
use Rattle.std.proofs.Common.{◌≡◌, ◌↔◌, ℕ, ◌≤◌, Some, sym, subst, ◌∙◌}
use Rattle.std.proofs.lemmas.Option.{same_Some}
use Rattle.vec_names.specs.declared.tid.Tid.{Tid}
use Rattle.vec_graph.specs.declared.node.Node.{Node}
use Rattle.vec_graph.specs.declared.graph.Graph.{Graph}
use Rattle.vec_graph.specs.Graph.{node_at, IsLive, IsDoomed, IsLiveAt, IsDoomedAt}

pub doomed_by_node : (g : Graph) (at : Tid) (n : Node) → node_at g at ≡ Some n → IsDoomed n ↔ IsDoomedAt g at
doomed_by_node g at n stands = (
  λ doomed. record { node = n; stands = stands; doomed = doomed },
  λ there. subst IsDoomed (same_Some _ _ (sym there.stands ∙ stands)) there.doomed,
)

pub live_by_node : (g : Graph) (at : Tid) (layer : ℕ) (n : Node) → node_at g at ≡ Some n → (IsLive n × (layer ≤ n.level)) ↔ IsLiveAt g at layer
live_by_node g at layer n stands = (
  λ live. record { node = n; stands = stands; live = live.0; reaches = live.1 },
  λ there. subst (λ m. IsLive m × (layer ≤ m.level)) (same_Some _ _ (sym there.stands ∙ stands)) (there.live, there.reaches),
)
