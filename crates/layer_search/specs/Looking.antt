-- What a call did that only looks: its looks, and how a fault ends it.
use Rattle.std.specs.Prelude.{◌≡◌, ℕ, List, ◌++◌, map}
use Rattle.vec_history.specs.declared.event.Act.{Act}
use Rattle.graph_search.specs.Reads.{Look, Answer}
use Rattle.graph_search.specs.Deeds.{looks_of}
use Rattle.vec_steps.specs.declared.fault.StepFault.{StepFault}
use Rattle.vec_steps.specs.declared.fault.OpFault.{OpFault}
use Rattle.vec_steps.specs.Faults.{op_fault}
use Rattle.vec_steps.specs.Index.{Index}
use Rattle.vec_steps.specs.Doing.{Step}
use Rattle.vec_steps.specs.Telling.{fault_step}
use Rattle.vec_steps.specs.Desks.{Desk}
use Rattle.vec_steps.specs.Calls.{AreDeeds, Does, DoesSo, IsLogFault, Looks, course_at}

-- the course is these looks and what they told, and their positions came to a trace
pub record LooksSo (reads : List (Look × Answer)) (before now : List ℕ) (course : List (ℕ × Step)) : Type 0 where
  pub deeds : AreDeeds course (looks_of reads)
  pub traced : now ≡ before ++ map (λ s. s.0) course

-- a call made these looks, and nothing else: each was answered, over each of these bases, by the state at its own position
abbrev pub MadeLooks : (Index → Type 0) → Desk → List Act → List Act → List ℕ → List ℕ → List (Look × Answer) → Type 0
MadeLooks over d old new before now reads = DoesSo (LooksSo reads before now) over d old new

-- A call that only looks was ended by a fault: some looks were made, and then a step failed, of which a fault of the disks leaves an act;
-- or there was no memory. Over none of these bases was it for want of room in the log.
pub record EndedBy (over : Index → Type 0) (d : Desk) (old new : List Act) (fault : OpFault) : Type 0 where
  pub looked : List (ℕ × Step)
  pub only_looks : Looks looked
  pub at : ℕ
  pub step_fault : StepFault
  pub fault_is : fault ≡ op_fault step_fault
  pub does : Does over d old new (looked ++ course_at at (fault_step step_fault))
  pub not_of_log : (base : Index) → over base → IsLogFault step_fault → ⊥
