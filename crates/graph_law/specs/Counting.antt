-- How many nodes are doomed.
use Rattle.std.specs.Prelude.{ℕ, if◌then◌else◌, List, [], ◌∷◌, sum_by, Option, Some, None}
use Rattle.std.specs.FinMap.{values}
use Rattle.list_values.specs.Masks.{kept}
use Rattle.vec_names.specs.declared.heap_id.HeapId.{HeapId}
use Rattle.vec_history.specs.declared.event.Event.{Event}
use Rattle.vec_history.specs.declared.event.Event.TheVariants as event
use Rattle.vec_graph.specs.declared.node.Node.{Node}
use Rattle.vec_graph.specs.declared.graph.Graph.{Graph}
use Rattle.vec_graph.specs.Graph.{node_at}

abbrev pub one_if_none : List HeapId → ℕ
one_if_none [] = 1
one_if_none (id ∷ ids) = 0

-- 1 of a doomed node, and 0 of others
abbrev pub one_if_doomed : Node → ℕ
one_if_doomed n = if n.deleted then 0 else one_if_none n.ids

-- the number of doomed nodes
abbrev pub doomed_count : Graph → ℕ
doomed_count g = sum_by one_if_doomed (values g.nodes)

abbrev pub added_at : ℕ → Option Node → ℕ
added_at gone None = 0
added_at gone (Some n) = one_if_none (kept gone n.ids)

-- how many nodes become doomed by an event: one, where a Drop takes the last ids of a node
abbrev pub added : Graph → Event → ℕ
added g (event.Drop at version gone) = added_at gone (node_at g at)
added g _ = 0

-- how many cease to be doomed: one, where it is marked
abbrev pub ceased : Event → ℕ
ceased (event.Mark at list_at version) = 1
ceased _ = 0
