-- A graph without nodes.
use Rattle.std.specs.Prelude.{None}
use Rattle.std.specs.FinMap.{empty}
use Rattle.vec_names.specs.declared.params.Params.{Params}
use Rattle.vec_graph.specs.declared.graph.Graph.{Graph}

-- it has block 0 alone, and looks for room from block 1 on
abbrev pub empty_graph : Params → Graph
empty_graph p = record { params = p; nodes = empty; entry = None; level = 0; hint = 1; blocks = 1 }
