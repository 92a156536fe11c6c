-- Which events of an index of lists follow on pages that stand for it: what is asked of the chains and blocks that they name.
-- What redo itself asks of kinds, lengths, offsets and room is no part of it.
use Rattle.std.specs.Prelude.{◌≡◌, ℕ, ◌<◌, ⊤, slice_get, Some}
use Rattle.index_sizes.specs.declared.limits.TheConstants.{MOST_BLOCKS}
use Rattle.vec_history.specs.declared.event.Event.{Event}
use Rattle.vec_history.specs.declared.event.Event.TheVariants.{IvfAdd, IvfGrow, IvfDrop, IvfHint}
use Rattle.ivf_graph.specs.declared.list.IvfList.{IvfList}
use Rattle.ivf_graph.specs.declared.graph.IvfGraph.{IvfGraph}
use Rattle.ivf_graph.specs.Graph.{last_block}
use Rattle.ivf_graph.specs.Rules.{IsAimAllowed}

-- The new block is the next of all, and it goes behind the block that ends the list's chain.
pub record IsNextBehind (g : IvfGraph) (list last block : ℕ) : Type 0 where
  pub grows : IvfList
  pub is_there : slice_get g.lists list ≡ Some grows
  pub ends : last_block grows.chain ≡ Some last
  pub is_next : block ≡ g.blocks
  pub not_high : block < MOST_BLOCKS

-- A list grows behind its last block, and comes to aim at a block of its own. An event of a graph never follows, and a passing
-- one neither.
abbrev pub Follows : IvfGraph → Event → Type 0
Follows g (IvfAdd block id bits) = ⊤
Follows g (IvfGrow list last block id bits) = IsNextBehind g list last block
Follows g (IvfDrop block gone) = ⊤
Follows g (IvfHint list block) = IsAimAllowed g list block
Follows g _ = ⊥
