-- Over which bases the parts of an insert say what they do.
use Rattle.std.specs.Prelude.{◌≤◌, ⊤, ℕ, List, Bool, Option}
use Rattle.std.specs.List.{AllByRecursion}
use Rattle.vec_names.specs.declared.tid.Tid.{Tid}
use Rattle.vec_history.specs.declared.event.Act.{Act}
use Rattle.vec_graph.specs.declared.place.Place.{Place}
use Rattle.vec_graph.specs.declared.graph.Graph.{Graph}
use Rattle.vec_graph.specs.Effect.{after}
use Rattle.vec_graph.specs.Knowing.{Knows}
use Rattle.vec_graph.specs.Asking.{IsPutAsked, StandsSo}
use Rattle.neighbour_pick.specs.declared.found.Found.{Found}
use Rattle.search_sets.specs.Standing.{spot_of}
use Rattle.vec_steps.specs.Index.{Index, OfNodes, OfLists}
use Rattle.layer_search.specs.Telling.{StandsAt}

-- of a graph; an index of lists is never so
abbrev pub IsGraphSo : (Graph → Type 0) → Index → Type 0
IsGraphSo So (OfNodes g) = So g
IsGraphSo So (OfLists g) = ⊥

-- The bases on which a desk stands that are graphs of which this holds: a premise of what a call says, for each base by itself.
pub record OverGraphs (stands : Index → Type 0) (So : Graph → Type 0) (base : Index) : Type 0 where
  pub stood : stands base
  pub so : IsGraphSo So base

-- all graphs on which it stands
abbrev pub OverNodes : (Index → Type 0) → Index → Type 0
OverNodes stands = OverGraphs stands (λ g. ⊤)

-- a place may be looked for on the blocks from the hint on, up to so many, which are all there
pub record AreBlocks (base : Graph) (acts : List Act) (hint blocks : ℕ) : Type 0 where
  pub from_1 : 1 ≤ hint
  pub there : blocks ≤ (after base acts).blocks

-- and the rules take the node that is to be put
pub record MayPlace (base : Graph) (acts : List Act) (desk hint blocks level : ℕ) (bits : List Bool) (lists : List (Option Tid))
    : Type 0 where
  pub on : AreBlocks base acts hint blocks
  pub asked : IsPutAsked base acts desk level bits lists

-- the neighbours stand as they were told, each in its layer, which a node of the level reaches
pub record AreNeighbours (base : Graph) (acts : List Act) (level : ℕ) (picks : List (ℕ × Found)) : Type 0 where
  pub stand : AllByRecursion (λ p. StandsAt base acts p.0 (spot_of p.1)) picks
  pub reached : AllByRecursion (λ p. p.0 ≤ level) picks

-- a new node may be put, and then linked
pub record MayAdd (base : Graph) (acts : List Act) (desk hint blocks level : ℕ) (bits : List Bool) (lists : List (Option Tid))
    (picks : List (ℕ × Found)) : Type 0 where
  pub may_place : MayPlace base acts desk hint blocks level bits lists
  pub neighbours : AreNeighbours base acts level picks

-- the new node stands, and the desk knows it up to its level
pub record IsNew (base : Graph) (acts : List Act) (desk level : ℕ) (place : Place) : Type 0 where
  pub stands : StandsSo (after base acts) place.at place.list_at level
  pub known : Knows base acts desk place.at level

-- and it may be linked
pub record MayFinish (base : Graph) (acts : List Act) (desk level : ℕ) (place : Place) (picks : List (ℕ × Found)) : Type 0 where
  pub new : IsNew base acts desk level place
  pub neighbours : AreNeighbours base acts level picks
