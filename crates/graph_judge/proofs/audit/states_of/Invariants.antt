use Rattle.std.proofs.Common.{take}
use Rattle.graph_judge.specs.Course.{AreStates}
use Rattle.graph_judge.proofs.audit.states_of.Given as goal

abbrev pub invariant-loop-k : goal.invariant-loop-k
invariant-loop-k l = AreStates l.base (take l.k l.acts) l.states.items
