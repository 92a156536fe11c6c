-- Replay of a log's events on the pages of an index of lists.
use Rattle.std.specs.Prelude.{List, [], ◌∷◌, ⊤}
use Rattle.vec_history.specs.declared.event.Event.{Event}
use Rattle.ivf_graph.specs.declared.graph.IvfGraph.{IvfGraph}
use Rattle.ivf_graph.specs.Effect.{effect}
use Rattle.ivf_pages.specs.Following.{Follows}

-- the index after these events
abbrev pub effects : List Event → IvfGraph → IvfGraph
effects [] g = g
effects (e ∷ es) g = effects es (effect e g)

-- Each event follows on the index that those before it leave.
abbrev pub FollowInTurn : List Event → IvfGraph → Type 0
FollowInTurn [] g = ⊤
FollowInTurn (e ∷ es) g = Follows g e × FollowInTurn es (effect e g)
