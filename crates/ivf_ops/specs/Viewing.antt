-- What a call did that only looks at an index of lists: its looks, and how a fault ends it.
use Rattle.std.specs.Prelude.{◌≡◌, ℕ, ⊤, List, [], ◌∷◌, ◌++◌, map, Some}
use Rattle.vec_history.specs.declared.event.Act.{Act}
use Rattle.ivf_graph.specs.Looks.{Look, Answer}
use Rattle.vec_steps.specs.declared.fault.StepFault.{StepFault}
use Rattle.vec_steps.specs.declared.fault.OpFault.{OpFault}
use Rattle.vec_steps.specs.Faults.{op_fault}
use Rattle.vec_steps.specs.Index.{Index}
use Rattle.vec_steps.specs.Doing.{Step, viewed}
use Rattle.vec_steps.specs.Telling.{fault_step}
use Rattle.vec_steps.specs.Desks.{Desk}
use Rattle.vec_steps.specs.Calls.{Does, DoesSo, IsLogFault, Looks, course_at}

-- a look at a block, and what it was told
abbrev pub View : Type 0
View = Look × Answer

-- the steps of a course are these looks, in order
abbrev pub AreViews : List (ℕ × Step) → List View → Type 0
AreViews [] [] = ⊤
AreViews [] (v ∷ views) = ⊥
AreViews (s ∷ course) [] = ⊥
AreViews (s ∷ course) (v ∷ views) = (s.1 ≡ viewed v.0 (Some v.1)) × AreViews course views

-- the course is these looks, and their positions came to a trace
pub record ViewsSo (views : List View) (before now : List ℕ) (course : List (ℕ × Step)) : Type 0 where
  pub are : AreViews course views
  pub traced : now ≡ before ++ map (λ s. s.0) course

-- a call made these looks, and nothing else: each was answered, over each of these bases, by the state at its own position
abbrev pub MadeViews : (Index → Type 0) → Desk → List Act → List Act → List ℕ → List ℕ → List View → Type 0
MadeViews over d old new before now views = DoesSo (ViewsSo views before now) over d old new

-- A call that only looks was ended by a fault: some looks were made, and then a step failed, of which a fault of the disks leaves an act;
-- or there was no memory. Over none of these bases was it for want of room in the log.
pub record EndedBy (over : Index → Type 0) (d : Desk) (old new : List Act) (fault : OpFault) : Type 0 where
  pub looked : List (ℕ × Step)
  pub only_looks : Looks looked
  pub at : ℕ
  pub step_fault : StepFault
  pub fault_is : fault ≡ op_fault step_fault
  pub does : Does over d old new (looked ++ course_at at (fault_step step_fault))
  pub not_of_log : (base : Index) → over base → IsLogFault step_fault → ⊥
