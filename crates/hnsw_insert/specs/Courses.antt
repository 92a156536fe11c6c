-- What a call of an insert did, and how a fault ends it.
use Rattle.std.specs.Prelude.{◌≡◌, ◌≤◌, ⊤, ℕ, List, ◌∷◌, ◌++◌, length, take}
use Rattle.std.specs.List.{AllByRecursion}
use Rattle.vec_history.specs.declared.event.Act.{Act}
use Rattle.vec_history.specs.declared.gate.Gate.TheVariants.{Update}
use Rattle.graph_search.specs.Deeds.{Deed, asked, Takes, Releases}
use Rattle.vec_steps.specs.declared.ask.Ask.{Ask}
use Rattle.vec_steps.specs.declared.fault.OpFault.{OpFault}
use Rattle.vec_steps.specs.declared.fault.OpFault.TheVariants as op
use Rattle.vec_steps.specs.Index.{Index}
use Rattle.vec_steps.specs.Doing.{Step, did, overfull, viewed, faulted}
use Rattle.vec_steps.specs.Desks.{Desk}
use Rattle.vec_steps.specs.Calls.{AreDeeds, Does, DoesSo, IsLogFull, look_positions}
use Rattle.step_gates.specs.Gating.{GateFailed}

-- ---- steps

-- A step of an insert: a look, a change of a row, a link, the entry point or the hint, the gate Update; no block was left; the disks
-- failed. No phase of a vacuum begins by it.
abbrev pub IsOfInsert : Step → Type 0
IsOfInsert (did (asked (Takes gate hold) reply)) = gate ≡ Update
IsOfInsert (did (asked (Releases gate) reply)) = gate ≡ Update
IsOfInsert (did deed) = ⊤
IsOfInsert (overfull node blocks need) = ⊤
IsOfInsert (viewed look told) = ⊤
IsOfInsert (faulted count) = ⊤
IsOfInsert _ = ⊥

-- the same without a gate
abbrev pub IsUnderGate : Step → Type 0
IsUnderGate (did (asked (Takes gate hold) reply)) = ⊥
IsUnderGate (did (asked (Releases gate) reply)) = ⊥
IsUnderGate (did deed) = ⊤
IsUnderGate (overfull node blocks need) = ⊤
IsUnderGate (viewed look told) = ⊤
IsUnderGate (faulted count) = ⊤
IsUnderGate _ = ⊥

-- ---- what was done

-- the course is these deeds and no gate, and the positions of its looks came to a trace
pub record DidSo (deeds : List Deed) (before now : List ℕ) (course : List (ℕ × Step)) : Type 0 where
  pub are : AreDeeds course deeds
  pub only : AllByRecursion (λ s. IsUnderGate s.1) course
  pub traced : now ≡ before ++ look_positions course

-- A call under a gate did these deeds, and nothing else: over each of these bases, each at its own position.
abbrev pub Did : (Index → Type 0) → Desk → List Act → List Act → List ℕ → List ℕ → List Deed → Type 0
Did over d old new before now deeds = DoesSo (DidSo deeds before now) over d old new

-- the same with the gate of an insert
pub record WentSo (deeds : List Deed) (before now : List ℕ) (course : List (ℕ × Step)) : Type 0 where
  pub are : AreDeeds course deeds
  pub only : AllByRecursion (λ s. IsOfInsert s.1) course
  pub traced : now ≡ before ++ look_positions course

abbrev pub Went : (Index → Type 0) → Desk → List Act → List Act → List ℕ → List ℕ → List Deed → Type 0
Went over d old new before now deeds = DoesSo (WentSo deeds before now) over d old new

-- ---- faults

-- the step is among those of the course
pub record Has (course : List (ℕ × Step)) (s : Step) : Type 0 where
  pub before : List (ℕ × Step)
  pub at : ℕ
  pub behind : List (ℕ × Step)
  pub course_is : course ≡ before ++ (at, s) ∷ behind

-- at a position of the call an ask of this size was made for which the log had no room, beside what was used
pub record IsRoomless (d : Desk) (base : Index) (old new : List Act) (used size : ℕ) : Type 0 where
  pub position : ℕ
  pub since : length old ≤ position
  pub met : position ≤ length new
  pub ask : Ask
  pub full : IsLogFull d base (take position new) ask used size

-- Why a call was ended by a fault: want of memory has no cause; for want of a block, what `Full` says of the course; for want of room in
-- the log an ask of this size, over each of these bases; a fault of the disks is counted by a step.
abbrev pub IsWhy : (List (ℕ × Step) → ℕ → ℕ → Type 0) → (Index → Type 0) → Desk → List Act → List Act → List (ℕ × Step) → OpFault → Type 0
IsWhy Full over d old new course op.Memory = ⊤
IsWhy Full over d old new course (op.Full blocks need) = Full course blocks need
IsWhy Full over d old new course (op.LogFull used size) = (base : Index) → over base → IsRoomless d base old new used size
IsWhy Full over d old new course (op.Disk count) = Has course (faulted count)
IsWhy Full over d old new course (op.Dimensions got want) = ⊥

-- never for want of a block
abbrev pub NeverFull : List (ℕ × Step) → ℕ → ℕ → Type 0
NeverFull course blocks need = ⊥

-- A call was ended by a fault. These steps it made, each over each of these bases at its own position, and its own acts are those of
-- its steps.
pub record StopsBy (Is : Step → Type 0) (Full : List (ℕ × Step) → ℕ → ℕ → Type 0) (over : Index → Type 0) (d : Desk) (old new : List Act)
    (fault : OpFault) : Type 0 where
  pub course : List (ℕ × Step)
  pub does : Does over d old new course
  pub only : AllByRecursion (λ s. Is s.1) course
  pub why : IsWhy Full over d old new course fault

-- The gate was asked to be given back last, and this failed, which is never for want of memory.
pub record KeepsGate (over : Index → Type 0) (d : Desk) (new : List Act) : Type 0 where
  pub mid : List Act
  pub fault : OpFault
  pub failed : GateFailed over d mid new fault
  pub not_memory : fault ≡ op.Memory → ⊥
