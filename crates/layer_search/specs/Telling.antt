-- Elements that a desk was told of stand where they were told to stand.
use Rattle.std.specs.Prelude.{◌≤◌, ℕ, List, ◌++◌, map}
use Rattle.std.specs.List.{AllByRecursion}
use Rattle.vec_history.specs.declared.event.Act.{Act}
use Rattle.vec_graph.specs.declared.graph.Graph.{Graph}
use Rattle.vec_graph.specs.Effect.{after}
use Rattle.vec_graph.specs.Asking.{StandsSo}
use Rattle.graph_search.specs.Scan.{Held}
use Rattle.search_sets.specs.declared.spot.Spot.{Spot}
use Rattle.search_sets.specs.Standing.{spot_of}
use Rattle.vec_steps.specs.Index.{Index, OfNodes, OfLists}

-- a node stands there, with its list and its level, and reaches the layer
abbrev pub StandsAt : Graph → List Act → ℕ → Spot → Type 0
StandsAt base acts layer s = StandsSo (after base acts) s.at s.list_at s.level × layer ≤ s.level

-- so do all of these; in an index of lists none does
abbrev pub StandThere : List Act → ℕ → List Spot → Index → Type 0
StandThere acts layer spots (OfNodes base) = AllByRecursion (StandsAt base acts layer) spots
StandThere acts layer spots (OfLists base) = ⊥

-- The bases on which a desk stands, and over which these stand as it was told: a premise of what a search says, for each base by itself.
pub record OverSpots (stands : Index → Type 0) (acts : List Act) (layer : ℕ) (spots : List Spot) (base : Index) : Type 0 where
  pub stood : stands base
  pub there : StandThere acts layer spots base

-- where the elements stand that a search holds
abbrev pub spots_held : Held → List Spot
spots_held h = map spot_of h.unexpanded ++ map (λ p. spot_of p.0) h.found
