use Rattle.std.proofs.Common.{◌≡◌, ◌+◌, ◌++◌, take, drop}
use Rattle.ivf_graph.specs.Effect.{others}
use Rattle.ivf_graph.proofs.applying.drop_rows.Given as goal

abbrev pub invariant-loop-at : goal.invariant-loop-at
invariant-loop-at l = l.rows ≡ take l.at l.fn.rows ++ others l.gone (l.at + 1) (drop l.at l.fn.rows)
