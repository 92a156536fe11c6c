-- Replay of a log's events on the pages of a graph.
use Rattle.std.specs.Prelude.{ℕ, List, [], ◌∷◌, ⊤}
use Rattle.vec_history.specs.declared.event.Event.{Event}
use Rattle.page_bytes.specs.Content.{Content}
use Rattle.vec_graph.specs.declared.graph.Graph.{Graph}
use Rattle.vec_graph.specs.Effect.{effect}
use Rattle.page_redo.specs.Growing.{AreAllRedone}
use Rattle.graph_pages.specs.Following.{Follows}
use Rattle.page_redo.specs.Fitting.{FitsEach}
use Rattle.page_redo.specs.Replaying.{next_number}

-- the graph after these events
abbrev pub effects : ℕ → List Event → Graph → Graph
effects wrap [] g = g
effects wrap (e ∷ es) g = effects wrap es (effect wrap e g)

-- Each event follows on the pages that those before it leave, and fits them.
abbrev pub FollowInTurn : ℕ → ℕ → List Event → List Content → Graph → Type 0
FollowInTurn wrap number [] pages g = ⊤
FollowInTurn wrap number (e ∷ es) pages g =
    Follows pages g e × FitsEach pages g.params e
    × ((after : List Content) → AreAllRedone g.params wrap number e pages after
    → FollowInTurn wrap (next_number number) es after (effect wrap e g))
