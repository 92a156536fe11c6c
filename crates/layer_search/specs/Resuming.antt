-- A layer's search that goes on: what it holds, and what is left once a batch was taken.
use Rattle.std.specs.Prelude.{◌≡◌, ℕ, Bool, true, List, None}
use Rattle.vec_names.specs.declared.params.Ops.{Ops}
use Rattle.vec_history.specs.declared.event.Act.{Act}
use Rattle.graph_search.specs.Search.{AreExact, LayerSearch, Start, Turn, course_reads}
use Rattle.graph_search.specs.Scan.{Held, after_batch, begins_with, is_over}
use Rattle.graph_search.specs.ByHolding.{AreTurnsOf, HoldTheSame, after_turns, batch_of, elements_in}
use Rattle.search_sets.specs.Standing.{IsWhole, held}
use Rattle.vec_steps.specs.Index.{Index}
use Rattle.vec_steps.specs.Desks.{Desk}
use Rattle.layer_search.specs.declared.resuming.Search.{Search}
use Rattle.layer_search.specs.Waiting.{AreApart, IsReady, found_held}
use Rattle.layer_search.specs.Looking.{MadeLooks}

-- ---- a search

-- what it holds
abbrev pub holding : Search → Held
holding s = held s.frontier

-- which layer it searches
abbrev pub layer_of : Search → ℕ
layer_of s = s.layer

-- it can go on over an index whose values have so many places
abbrev pub CanGoOn : ℕ → Search → Type 0
CanGoOn n s = IsReady n s.frontier

-- those that it found stand at places of their own, and can be taken
pub record CanTake (s : Search) : Type 0 where
  pub whole : IsWhole s.frontier
  pub apart : AreApart (found_held (holding s))

-- the distances of those that wait, and of those that were found, are those of their values to the query
pub record AreExactHeld (ops : Ops) (query : List Bool) (h : Held) : Type 0 where
  pub waiting : AreExact ops query h.unexpanded
  pub found : AreExact ops query (found_held h)

-- ---- the first turns

-- A search made its first turns, and no bound ended it: they are turns from what it holds where it begins, up to where it is over. It holds
-- what it does after them, but that some elements are marked as known earlier: the first ef found are the same, and so is what is held
-- once these were taken. They are what the search of the layer finds.
pub record FirstTurns (over : Index → Type 0) (d : Desk) (old new : List Act) (before now : List ℕ) (s : Start) (ef : ℕ) (h : Held) : Type 0 where
  pub turns : List Turn
  pub are_turns : AreTurnsOf s ef None (begins_with s) turns
  pub unmarked : Held
  pub unmarked_is : HoldTheSame unmarked (after_turns s turns (begins_with s))
  pub is_ended : is_over ef None unmarked ≡ true
  pub batch_is : elements_in (batch_of ef h) ≡ elements_in (batch_of ef unmarked)
  pub left : HoldTheSame (after_batch ef h) (after_batch ef unmarked)
  pub search : LayerSearch s ef (course_reads s.layer turns) (elements_in (batch_of ef h))
  pub made : MadeLooks over d old new before now (course_reads s.layer turns)
