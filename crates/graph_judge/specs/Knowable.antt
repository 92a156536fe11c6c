-- Words of the functions that decide what a desk knows and what was cleaned. No rule is stated by these.
use Rattle.std.specs.Prelude.{◌≡◌, ℕ, ◌≤◌, ⊤, List, [], ◌∷◌, slice_get, Option, Some, None}
use Rattle.vec_names.specs.declared.tid.Tid.{Tid}
use Rattle.vec_history.specs.declared.event.Act.{Act}
use Rattle.vec_graph.specs.declared.graph.Graph.{Graph}
use Rattle.vec_graph.specs.declared.node.Node.{Node}
use Rattle.vec_graph.specs.Graph.{IsLive, IsDoomedAt, IsMember, slot_layer}
use Rattle.vec_graph.specs.Effect.{after}
use Rattle.vec_graph.specs.Knowing.{Knows}
use Rattle.vec_graph.specs.Cleaning.{IsCleanAt}

-- the desk knows what a slot of a node of this level names, if it names one, up to the slot's layer
abbrev pub KnowsSlot : Graph → List Act → ℕ → ℕ → ℕ → Option Tid → Type 0
KnowsSlot base acts desk level slot (Some to) = Knows base acts desk to (slot_layer (after base acts).params.m level slot)
KnowsSlot base acts desk level slot None = ⊤

-- one of the graphs, that of this number, is so
pub record IsSomewhere (P : Graph → Type 0) (states : List Graph) : Type 0 where
  pub number : ℕ
  pub state : Graph
  pub there : slice_get states number ≡ Some state
  pub is : P state

-- each entry of a map is so
abbrev pub EachEntry : (Tid → Node → Type 0) → List (Tid × Node) → Type 0
EachEntry P [] = ⊤
EachEntry P (e ∷ es) = P e.0 e.1 × EachEntry P es

-- no member of the layer of a node of this level with these slots is doomed
abbrev pub AreMembersClean : Graph → ℕ → List (Option Tid) → ℕ → Type 0
AreMembersClean g level slots layer = (to : Tid) → IsMember g.params.m level slots layer to → IsDoomedAt g to → ⊥

-- the slot is one of the layer and names a node that is doomed
abbrev pub NamesDoomed : Graph → ℕ → ℕ → ℕ → Option Tid → Type 0
NamesDoomed g level layer slot (Some to) = (slot_layer g.params.m level slot ≡ layer) × IsDoomedAt g to
NamesDoomed g level layer slot None = ⊥

-- each layer up to this level of the node at a place was clean in one of the graphs
abbrev pub WereLayersClean : List Graph → Tid → ℕ → Type 0
WereLayersClean states at level = (layer : ℕ) → layer ≤ level → IsSomewhere (λ g. IsCleanAt g at layer) states

-- if the node at a place is live, each of its layers was clean in one of the graphs
abbrev pub WasNodeClean : List Graph → Tid → Node → Type 0
WasNodeClean states at n = IsLive n → WereLayersClean states at n.level
