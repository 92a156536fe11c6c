-- Redo of an event on the pages that stand for an index of lists.
use Rattle.std.specs.Prelude.{◌≡◌, ℕ, List, slice_get, slice_set, Some, All}
use Rattle.vec_names.specs.declared.params.Params.{Params}
use Rattle.vec_history.specs.declared.event.Event.{Event}
use Rattle.page_bytes.specs.Content.{Content, IsPage}
use Rattle.ivf_graph.specs.declared.graph.IvfGraph.{IvfGraph}
use Rattle.ivf_graph.specs.Effect.{effect}
use Rattle.page_redo.specs.Redo.{redone}
use Rattle.ivf_pages.specs.Standing.{Stands}

-- Where pages stand for the index, and the event fits the page of a block, these pages with the one that redo makes of it
-- stand for the index after the event.
abbrev pub RedoIsEffect : Params → List Content → IvfGraph → Event → Type 0
RedoIsEffect p pages g event =
    (wrap number block : ℕ) (page after : Content) → All IsPage pages → Stands p pages g → slice_get pages block ≡ Some page
    → redone event p wrap number block page ≡ Some after → Stands p (slice_set pages block after) (effect event g)
