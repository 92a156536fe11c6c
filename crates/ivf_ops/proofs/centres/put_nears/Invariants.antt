use Rattle.std.proofs.Common.{◌≡◌, ◌++◌, map, take}
use Rattle.ivf_ops.specs.Nearness.{near_of}
use Rattle.ivf_ops.proofs.centres.put_nears.Given as goal

abbrev pub invariant-loop-centre : goal.invariant-loop-centre
invariant-loop-centre l = l.nears.items ≡ l.fn.nears.items ++ map (near_of l.query) (take l.centre-index l.centres)
