-- What a call of a vacuum did, over which bases, and how a fault ends it.
use Rattle.std.specs.Prelude.{◌≡◌, ◌≤◌, ⊤, ℕ, List, ◌∷◌, ◌++◌, length, take}
use Rattle.std.specs.List.{AllByRecursion}
use Rattle.vec_history.specs.declared.event.Act.{Act}
use Rattle.vec_graph.specs.declared.graph.Graph.{Graph}
use Rattle.vec_steps.specs.declared.ask.Ask.{Ask}
use Rattle.vec_steps.specs.declared.told.Told.{Told}
use Rattle.vec_steps.specs.declared.fault.StepFault.{StepFault}
use Rattle.vec_steps.specs.declared.fault.OpFault.{OpFault}
use Rattle.vec_steps.specs.declared.fault.OpFault.TheVariants as op
use Rattle.vec_steps.specs.Faults.{op_fault}
use Rattle.vec_steps.specs.Index.{Index, OfNodes, OfLists}
use Rattle.vec_steps.specs.Doing.{Step, faulted}
use Rattle.vec_steps.specs.Desks.{Desk}
use Rattle.vec_steps.specs.Calls.{Does, Failed, IsLogFull, Stepped, look_positions, steps_of}

-- ---- bases

-- of a graph; an index of lists is never so
abbrev pub IsGraphSo : (Graph → Type 0) → Index → Type 0
IsGraphSo So (OfNodes g) = So g
IsGraphSo So (OfLists g) = ⊥

-- The bases on which a desk stands that are graphs of which this holds: a premise of what a call says, for each base by itself.
pub record OverGraphs (stands : Index → Type 0) (So : Graph → Type 0) (base : Index) : Type 0 where
  pub stood : stands base
  pub so : IsGraphSo So base

-- all graphs on which it stands
abbrev pub OverNodes : (Index → Type 0) → Index → Type 0
OverNodes stands = OverGraphs stands (λ g. ⊤)

-- ---- one step

-- what was asked for was done
pub record IsStepped (over : Index → Type 0) (d : Desk) (old new : List Act) (ask : Ask) (told : Told) : Type 0 where
  pub left : Ask
  pub made : Stepped over d old new ask left told

pub record IsNotStepped (over : Index → Type 0) (d : Desk) (old new : List Act) (ask : Ask) (end : OpFault) : Type 0 where
  pub fault : StepFault
  pub end_is : end ≡ op_fault fault
  pub failed : Failed over d old new ask fault

-- ---- what was done

-- each step is so by the base and the acts before it
abbrev pub AllSo : (Index → List Act → Step → Type 0) → Index → List Act → List (ℕ × Step) → Type 0
AllSo So base acts course = AllByRecursion (λ s. So base (take s.0 acts) s.1) course

-- The course of a call: only such steps, and over each of these bases each is so at its own position.
pub record Making (Is : Step → Type 0) (So : Index → List Act → Step → Type 0) (over : Index → Type 0) (d : Desk) (old new : List Act)
    (course : List (ℕ × Step)) : Type 0 where
  pub does : Does over d old new course
  pub only : AllByRecursion (λ s. Is s.1) course
  pub so : (base : Index) → over base → AllSo So base new course

-- A call whose steps are as a word says; the positions of its looks came to a trace.
pub record Makes (Is : Step → Type 0) (So : Index → List Act → Step → Type 0) (over : Index → Type 0) (d : Desk) (old new : List Act)
    (before now : List ℕ) (P : List Step → Type 0) : Type 0 where
  pub course : List (ℕ × Step)
  pub made : Making Is So over d old new course
  pub is : P (steps_of course)
  pub traced : now ≡ before ++ look_positions course

-- ---- faults

-- the step is among those of the course
pub record Has (course : List (ℕ × Step)) (s : Step) : Type 0 where
  pub before : List (ℕ × Step)
  pub at : ℕ
  pub behind : List (ℕ × Step)
  pub course_is : course ≡ before ++ (at, s) ∷ behind

-- at a position of the call an ask of this size was made for which the log had no room, beside what was used
pub record IsRoomless (d : Desk) (base : Index) (old new : List Act) (used size : ℕ) : Type 0 where
  pub position : ℕ
  pub since : length old ≤ position
  pub met : position ≤ length new
  pub ask : Ask
  pub full : IsLogFull d base (take position new) ask used size

-- Why a call was ended by a fault: want of memory has no cause; for want of room in the log an ask of this size, over each of these
-- bases; a fault of the disks is counted by a step. No vacuum wants blocks, or takes a value.
abbrev pub IsWhy : (Index → Type 0) → Desk → List Act → List Act → List (ℕ × Step) → OpFault → Type 0
IsWhy over d old new course op.Memory = ⊤
IsWhy over d old new course (op.Full blocks need) = ⊥
IsWhy over d old new course (op.LogFull used size) = (base : Index) → over base → IsRoomless d base old new used size
IsWhy over d old new course (op.Disk count) = Has course (faulted count)
IsWhy over d old new course (op.Dimensions got want) = ⊥

-- A fault ended a call: until then it made only such steps, each so at its own position.
pub record StopsBy (Is : Step → Type 0) (So : Index → List Act → Step → Type 0) (over : Index → Type 0) (d : Desk) (old new : List Act)
    (fault : OpFault) : Type 0 where
  pub course : List (ℕ × Step)
  pub made : Making Is So over d old new course
  pub why : IsWhy over d old new course fault
