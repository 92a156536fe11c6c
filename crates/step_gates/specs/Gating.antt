-- What a call does that takes a gate, or gives one back.
use Rattle.std.specs.Prelude.{◌≡◌, ℕ, List, [], ◌∷◌}
use Rattle.vec_history.specs.declared.event.Act.{Act}
use Rattle.vec_history.specs.declared.gate.Gate.{Gate}
use Rattle.vec_history.specs.declared.gate.Hold.{Hold}
use Rattle.vec_history.specs.Gates.{Holds, HoldsSince}
use Rattle.graph_search.specs.Deeds.{asked, Takes, Releases, Done}
use Rattle.vec_steps.specs.declared.fault.StepFault.{StepFault}
use Rattle.vec_steps.specs.declared.fault.OpFault.{OpFault}
use Rattle.vec_steps.specs.Faults.{op_fault}
use Rattle.vec_steps.specs.Index.{Index}
use Rattle.vec_steps.specs.Doing.{did}
use Rattle.vec_steps.specs.Telling.{fault_step}
use Rattle.vec_steps.specs.Desks.{Desk}
use Rattle.vec_steps.specs.Calls.{Does, IsLogFault, course_at}

-- The call took the gate, and did nothing else. The desk holds it since that act, which is the last.
pub record TakesGate (over : Index → Type 0) (d : Desk) (old new : List Act) (gate : Gate) (hold : Hold) : Type 0 where
  pub at : ℕ
  pub does : Does over d old new ((at, did (asked (Takes gate hold) Done)) ∷ [])
  pub holds : HoldsSince new d.number gate hold at

-- The call gave the gate back, and did nothing else. The desk holds it no more.
pub record GivesBack (over : Index → Type 0) (d : Desk) (old new : List Act) (gate : Gate) : Type 0 where
  pub at : ℕ
  pub does : Does over d old new ((at, did (asked (Releases gate) Done)) ∷ [])
  pub free : Holds new d.number gate → ⊥

-- The step of a gate failed, and nothing else was done: a fault of the disks left an act, and another one none. Over none of these bases
-- was it for want of room in the log.
pub record GateFailed (over : Index → Type 0) (d : Desk) (old new : List Act) (fault : OpFault) : Type 0 where
  pub at : ℕ
  pub step_fault : StepFault
  pub fault_is : fault ≡ op_fault step_fault
  pub does : Does over d old new (course_at at (fault_step step_fault))
  pub not_of_log : (base : Index) → over base → IsLogFault step_fault → ⊥
