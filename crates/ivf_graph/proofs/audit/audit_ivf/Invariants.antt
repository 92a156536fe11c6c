use Rattle.std.proofs.Common.{◌≡◌, take}
use Rattle.ivf_graph.specs.Effect.{after}
use Rattle.ivf_graph.specs.Legal.{IsLegal}
use Rattle.ivf_graph.proofs.audit.audit_ivf.Given as goal

abbrev pub invariant-loop-at : goal.invariant-loop-at
invariant-loop-at l = (l.index ≡ after l.base (take l.at l.acts)) × IsLegal l.base (take l.at l.acts)
