use Rattle.std.proofs.Common.{◌≡◌, ◌++◌, map, take}
use Rattle.ivf_ops.specs.Nearness.{met_of}
use Rattle.ivf_ops.proofs.chains.put_rows.Given as goal

abbrev pub invariant-loop-row : goal.invariant-loop-row
invariant-loop-row l = l.met.items ≡ l.fn.met.items ++ map (met_of l.query l.block) (take l.row-index l.rows)
