-- Legal histories.
use Rattle.std.specs.Prelude.{List}
use Rattle.vec_history.specs.declared.event.Act.{Act}
use Rattle.vec_history.specs.Legal.{IsLegalBy}
use Rattle.ivf_graph.specs.declared.graph.IvfGraph.{IvfGraph}
use Rattle.ivf_graph.specs.Effect.{after}
use Rattle.ivf_graph.specs.Rules.{IsEventAllowed}

-- the act may come after these acts, which begin at a base
abbrev pub IsAllowed : IvfGraph → List Act → Act → Type 0
IsAllowed base before a = IsEventAllowed (after base before) before a.desk a.event

-- each act is allowed after the acts before it
abbrev pub IsLegal : IvfGraph → List Act → Type 0
IsLegal base acts = IsLegalBy (IsAllowed base) acts
