-- What the rules ask of a desk's next event, other than what a step answers by a word: whether another desk's hold
-- stands in the way, whether a block has room, which block ends a chain, whether there is a further block. What is
-- asked holds on while other desks act.
use Rattle.std.specs.Prelude.{◌≡◌, ℕ, ◌<◌, ⊤, List, Bool, length, Some, None}
use Rattle.index_sizes.specs.declared.limits.TheConstants.{MOST_BLOCKS}
use Rattle.vec_history.specs.declared.event.Event.{Event}
use Rattle.vec_history.specs.declared.event.Event.TheVariants as event
use Rattle.vec_history.specs.declared.event.Act.{Act}
use Rattle.vec_history.specs.Gates.{Holds, AgreesWithOthers}
use Rattle.vec_history.specs.Phases.{IsUngateAllowed}
use Rattle.ivf_graph.specs.declared.graph.IvfGraph.{IvfGraph}
use Rattle.ivf_graph.specs.Graph.{Row, rows_on, HasRoom, IsAsLong}
use Rattle.ivf_graph.specs.Effect.{after}
use Rattle.ivf_graph.specs.Looks.{next_on}
use Rattle.ivf_graph.specs.Rules.{IsCutAllowed, IsAimAllowed}

-- ---- what is asked

-- the block stands in a chain, with room or without, and the value has the centres' length
pub record IsAddAsked (g : IvfGraph) (block : ℕ) (bits : List Bool) : Type 0 where
  pub rows : List Row
  pub stands : rows_on g block ≡ Some rows
  pub as_long : IsAsLong g bits

-- the block stands in the list's chain, at its end or not, and the value has the centres' length
pub record IsGrowAsked (g : IvfGraph) (list last : ℕ) (bits : List Bool) : Type 0 where
  pub of_list : IsAimAllowed g list last
  pub as_long : IsAsLong g bits

-- Nothing is asked here of settling and of faults, which go by the acts of all desks; and no event of a graph of nodes may be made.
abbrev pub IsAsked : IvfGraph → List Act → ℕ → Event → Type 0
IsAsked base acts desk (event.IvfAdd block id bits) = IsAddAsked (after base acts) block bits
IsAsked base acts desk (event.IvfGrow list last block id bits) = IsGrowAsked (after base acts) list last bits
IsAsked base acts desk (event.IvfDrop block gone) = IsCutAllowed (after base acts) acts desk block gone
IsAsked base acts desk (event.IvfHint list block) = IsAimAllowed (after base acts) list block
IsAsked base acts desk (event.Gate gate hold) = Holds acts desk gate → ⊥
IsAsked base acts desk (event.Ungate gate) = IsUngateAllowed acts desk gate
IsAsked base acts desk (event.Put at list_at version level id bits lists) = ⊥
IsAsked base acts desk (event.Join at version id) = ⊥
IsAsked base acts desk (event.Link at list_at version slot to) = ⊥
IsAsked base acts desk (event.Relist at list_at version lists) = ⊥
IsAsked base acts desk (event.Drop at version gone) = ⊥
IsAsked base acts desk (event.Mark at list_at version) = ⊥
IsAsked base acts desk (event.Entry to level) = ⊥
IsAsked base acts desk (event.Hint block) = ⊥
IsAsked base acts desk (event.Phase stage) = ⊥
IsAsked base acts desk event.VacuumEnd = ⊥
IsAsked base acts desk (event.Cancel stage) = ⊥
IsAsked base acts desk (event.Settled upto) = ⊥
IsAsked base acts desk (event.DiskFaulted count) = ⊥

-- ---- what the words of a step say

-- the rows on the block leave room for one of so many places
pub record IsRoomOn (g : IvfGraph) (block places : ℕ) : Type 0 where
  pub rows : List Row
  pub stands : rows_on g block ≡ Some rows
  pub room : HasRoom rows places

-- no block is behind this one, and the new one is the next of all, of which there is a further one
pub record IsLast (g : IvfGraph) (last block : ℕ) : Type 0 where
  pub no_next : next_on g last ≡ None
  pub is_next : block ≡ g.blocks
  pub not_high : block < MOST_BLOCKS

-- what a step does besides answers that it was not done
abbrev pub IsGranted : IvfGraph → List Act → ℕ → Event → Type 0
IsGranted base acts desk (event.IvfAdd block id bits) = IsRoomOn (after base acts) block (length bits)
IsGranted base acts desk (event.IvfGrow list last block id bits) = IsLast (after base acts) last block
IsGranted base acts desk (event.Gate gate hold) = AgreesWithOthers acts desk gate hold
IsGranted base acts desk _ = ⊤

-- settling and faults go by the acts of all desks
abbrev pub IsOfAll : Event → Type 0
IsOfAll (event.Settled upto) = ⊤
IsOfAll (event.DiskFaulted count) = ⊤
IsOfAll _ = ⊥
