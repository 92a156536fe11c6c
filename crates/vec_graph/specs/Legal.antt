-- Legal histories.
use Rattle.std.specs.Prelude.{List}
use Rattle.vec_history.specs.declared.event.Act.{Act}
use Rattle.vec_history.specs.Legal.{IsLegalBy}
use Rattle.vec_graph.specs.declared.graph.Graph.{Graph}
use Rattle.vec_graph.specs.Rules.{IsEventAllowed}

-- the act may come after these acts
abbrev pub IsAllowed : Graph → List Act → Act → Type 0
IsAllowed base before a = IsEventAllowed base before a.desk a.event

-- each act is allowed after the acts before it
abbrev pub IsLegal : Graph → List Act → Type 0
IsLegal base acts = IsLegalBy (IsAllowed base) acts
