use Rattle.std.proofs.Common.{ℕ, ◌<◌}
use Rattle.vec_graph.specs.Cleaning.{IsCleanAt}
use Rattle.graph_judge.specs.Knowable.{IsSomewhere}
use Rattle.graph_judge.proofs.cleaning.were_layers_clean.Given as goal

abbrev pub invariant-loop-layer : goal.invariant-loop-layer
invariant-loop-layer l = (layer : ℕ) → layer < l.layer → IsSomewhere (λ g. IsCleanAt g l.at layer) l.states
