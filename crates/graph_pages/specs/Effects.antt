-- Redo of an event on the pages that stand for a graph.
use Rattle.std.specs.Prelude.{◌≡◌, ℕ, List, slice_get, slice_set, Option, Some, All}
use Rattle.std.specs.Option.{option_map, option_and_then}
use Rattle.vec_history.specs.declared.event.Event.{Event}
use Rattle.page_bytes.specs.Content.{Content, IsPage}
use Rattle.vec_graph.specs.declared.graph.Graph.{Graph}
use Rattle.vec_graph.specs.Effect.{effect}
use Rattle.page_redo.specs.Redo.{redone, numbered}
use Rattle.vec_tuples.specs.declared.meta.Meta.{Meta}
use Rattle.vec_tuples.specs.Spelling.{meta_bytes}
use Rattle.page_redo.specs.PageTuples.{meta_at, with_item}
use Rattle.graph_pages.specs.Standing.{Stands}

-- Where pages stand for the graph, and the event fits the page of a block, these pages with the one that redo makes of it
-- stand for the graph after the event.
abbrev pub RedoIsEffect : List Content → Graph → Event → Type 0
RedoIsEffect pages g event =
    (wrap number block : ℕ) (page after : Content) → All IsPage pages → Stands pages g → slice_get pages block ≡ Some page
    → redone event g.params wrap number block page ≡ Some after → Stands (slice_set pages block after) (effect wrap event g)

-- the format of the meta tuple, where block 0 has one
abbrev pub format_in : List Content → Option ℕ
format_in pages = option_map (λ (m : Meta). m.format) (option_and_then meta_at (slice_get pages 0))

-- the page of a meta tuple, with that of another format and with this number
abbrev pub with_format : ℕ → ℕ → Content → Meta → Content
with_format format number page m = numbered number (with_item page 1 (meta_bytes (record m { format = format })))
