-- Which pages stand for an index of either method.
use Rattle.std.specs.Prelude.{◌≤◌, All, List, length}
use Rattle.index_sizes.specs.declared.limits.TheConstants.{MOST_BLOCKS}
use Rattle.vec_names.specs.declared.params.Params.{Params}
use Rattle.vec_history.specs.declared.event.Act.{Act}
use Rattle.page_bytes.specs.Content.{Content, IsPage}
use Rattle.vec_graph.specs.Effect as nodes
use Rattle.ivf_graph.specs.Effect as lists
use Rattle.graph_pages.specs.Standing as nodes_pages
use Rattle.ivf_pages.specs.Standing as lists_pages
use Rattle.vec_steps.specs.Index.{Index, OfNodes, OfLists}

-- the index after these acts
abbrev pub index_after : Index → List Act → Index
index_after (OfNodes g) acts = OfNodes (nodes.after g acts)
index_after (OfLists g) acts = OfLists (lists.after g acts)

-- the pages stand for the index, which has these parameters
abbrev pub StandFor : Params → List Content → Index → Type 0
StandFor p pages (OfNodes g) = nodes_pages.Stands pages g
StandFor p pages (OfLists g) = lists_pages.Stands p pages g

-- Pages of an index, as they stand on a disk: each has bytes, and there are no more than there may be.
pub record AreOf (p : Params) (pages : List Content) (index : Index) : Type 0 where
  pub few : length pages ≤ MOST_BLOCKS
  pub bytes : All IsPage pages
  pub stand : StandFor p pages index
