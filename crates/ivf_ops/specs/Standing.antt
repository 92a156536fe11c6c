-- Blocks that stand in the chains of an index of lists: so does a block that was told once, whatever acts come.
use Rattle.std.specs.Prelude.{◌≡◌, ℕ, ⊤, List, slice_get, Option, Some, None}
use Rattle.vec_history.specs.declared.event.Act.{Act}
use Rattle.ivf_graph.specs.declared.list.IvfList.{IvfList}
use Rattle.ivf_graph.specs.declared.graph.IvfGraph.{IvfGraph}
use Rattle.ivf_graph.specs.Effect.{after}
use Rattle.ivf_graph.specs.Lasting.{numbers}
use Rattle.vec_steps.specs.Index.{Index, OfNodes, OfLists}

-- the block has a place in the chain of a list
pub record IsChained (g : IvfGraph) (block : ℕ) : Type 0 where
  pub list : ℕ
  pub place : ℕ
  pub of_list : IvfList
  pub is_list : slice_get g.lists list ≡ Some of_list
  pub is : slice_get (numbers of_list) place ≡ Some block

-- the block does, after the acts; in a graph of nodes none does
abbrev pub IsThere : List Act → Option ℕ → Index → Type 0
IsThere acts None base = ⊤
IsThere acts (Some block) (OfNodes base) = ⊥
IsThere acts (Some block) (OfLists base) = IsChained (after base acts) block

-- The bases on which a desk stands and over which this block has a place, as it was told: a premise of what a walk along a chain says,
-- for each base by itself.
pub record OverBlock (stands : Index → Type 0) (acts : List Act) (block : Option ℕ) (base : Index) : Type 0 where
  pub stood : stands base
  pub there : IsThere acts block base
