use Rattle.std.proofs.Common.{◌≡◌, ℕ, ◌<◌, slice_get, Option, Some}
use Rattle.vec_names.specs.declared.tid.Tid.{Tid}
use Rattle.graph_judge.specs.Knowable.{NamesDoomed}
use Rattle.graph_judge.proofs.cleaning.are_members_clean.Given as goal

abbrev pub invariant-loop-slot : goal.invariant-loop-slot
invariant-loop-slot l = (k : ℕ) (named : Option Tid) → k < l.slot → slice_get l.node.slots k ≡ Some named → NamesDoomed l.graph l.node.level l.layer k named → ⊥
