use Rattle.std.proofs.Common.{◌≡◌, drop}
use Rattle.script_jobs.specs.Counting.{with_all}
use Rattle.script_jobs.proofs.counting.with_all.Given as goal

-- the counts so far, with the nodes that are left, are those of all
abbrev pub invariant-node : goal.invariant-node
invariant-node l = with_all l.all (drop l.i l.nodes) ≡ with_all l.fn.counts l.nodes
