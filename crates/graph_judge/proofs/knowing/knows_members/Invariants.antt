use Rattle.std.proofs.Common.{◌≡◌, ℕ, ◌<◌, slice_get, Option, Some}
use Rattle.vec_names.specs.declared.tid.Tid.{Tid}
use Rattle.graph_judge.specs.Knowable.{KnowsSlot}
use Rattle.graph_judge.proofs.knowing.knows_members.Given as goal

abbrev pub invariant-loop-slot : goal.invariant-loop-slot
invariant-loop-slot l = (k : ℕ) (named : Option Tid) → k < l.slot → slice_get l.lists k ≡ Some named → KnowsSlot l.course.base.now l.course.acts.now l.desk l.level k named
