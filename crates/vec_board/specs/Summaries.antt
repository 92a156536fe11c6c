-- What is known of an index without its pages.
use Rattle.std.specs.Prelude.{◌≡◌, ℕ, ◌+◌, ◌-◌, ◌==◌, ⊤, if◌then◌else◌, length, Some}
use Rattle.list_values.specs.Masks.{kept}
use Rattle.vec_history.specs.declared.event.Event.{Event}
use Rattle.vec_history.specs.declared.event.Event.TheVariants as event
use Rattle.vec_graph.specs.declared.node.Node.{Node}
use Rattle.vec_graph.specs.declared.graph.Graph.{Graph}
use Rattle.vec_graph.specs.Graph.{node_at}
use Rattle.graph_law.specs.Counting.{doomed_count}
use Rattle.page_redo.specs.Growing.{blocks_after}
use Rattle.vec_steps.specs.Index.{Index, OfNodes, OfLists}
use Rattle.vec_board.specs.declared.summary.Summary.{Summary}

-- what a summary tells is so of this graph
pub record IsSummaryOf (s : Summary) (g : Graph) : Type 0 where
  pub entry : s.entry ≡ g.entry
  pub level : s.level ≡ g.level
  pub hint : s.hint ≡ g.hint
  pub doomed : s.doomed ≡ doomed_count g

-- of an index of either method: of lists only the number of blocks counts
abbrev pub Summarizes : Summary → Index → Type 0
Summarizes s (OfNodes g) = IsSummaryOf s g
Summarizes s (OfLists g) = ⊤

-- The summary after an event. Of a Drop it is given how many rows the node has left.
abbrev pub summary_after : Summary → Event → ℕ → Summary
summary_after s (event.Drop at version gone) left = record s { doomed = s.doomed + (if left == 0 then 1 else 0) }
summary_after s (event.Mark at list_at version) left = record s { doomed = s.doomed - 1 }
summary_after s (event.Entry to level) left = record s { entry = to; level = level }
summary_after s (event.Hint block) left = record s { hint = block }
summary_after s e left = record s { blocks = blocks_after e s.blocks }

-- so many rows are left of a node by this event, if it is a Drop
abbrev pub IsLeft : Index → Event → ℕ → Type 0
IsLeft (OfNodes g) (event.Drop at version gone) left = (n : Node) → node_at g at ≡ Some n → left ≡ length (kept gone n.ids)
IsLeft _ _ left = ⊤
