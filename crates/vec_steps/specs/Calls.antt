-- What a step of a desk is, and what a call over steps does.
use Rattle.std.specs.Prelude.{◌≡◌, ◌≢◌, ℕ, ◌+◌, ◌<◌, ◌≤◌, ◌%◌, ◌^◌, ⊤, All, Bool, true, false, List, [], ◌∷◌, ◌++◌, map, filter, take, length, Option, Some, None}
use Rattle.vec_names.specs.declared.params.Params.{Params}
use Rattle.vec_event.specs.Spelling.{spelling}
use Rattle.vec_history.specs.declared.event.Event.{Event}
use Rattle.vec_history.specs.declared.event.Act.{Act}
use Rattle.vec_history.specs.declared.gate.Gate.{Gate}
use Rattle.vec_history.specs.Acts.{act_of, IsRising}
use Rattle.vec_history.specs.Gates.{Holds}
use Rattle.vec_history.specs.Settling.{is_lasting, lasting_events}
use Rattle.graph_search.specs.Deeds.{Deed, looked, asked, Takes, Releases, IsMadeAt, own_events}
use Rattle.index_sizes.specs.declared.limits.TheConstants.{LOG_ROOM}
use Rattle.vec_steps.specs.declared.ask.Ask.{Ask}
use Rattle.vec_steps.specs.declared.told.Told.{Told}
use Rattle.vec_steps.specs.declared.fault.StepFault.{StepFault}
use Rattle.vec_steps.specs.declared.fault.StepFault.TheVariants as fault
use Rattle.vec_steps.specs.Index.{Index}
use Rattle.vec_steps.specs.Doing.{Step, did, viewed, Cleaned, Ended, Says, step_events}
use Rattle.vec_steps.specs.Telling.{step_of, fault_step, left_of}
use Rattle.vec_steps.specs.Desks.{Desk, taken_by, used_after}

-- ---- histories that go on

-- by acts of others, and by just these of the desk of this number, in this order
pub record Acts (desk : ℕ) (old new : List Act) (own : List Event) : Type 0 where
  pub more : List Act
  pub all : new ≡ old ++ more
  pub own_are : own_events desk more ≡ own

-- none of these events is such a one
abbrev pub NoneOf : (Event → Type 0) → List Event → Type 0
NoneOf P [] = ⊤
NoneOf P (e ∷ es) = (P e → ⊥) × NoneOf P es

-- ---- one step

-- the events of a step, if there is one
abbrev pub made_by : Params → Option Step → List Event
made_by p None = []
made_by p (Some s) = step_events p s

-- how many events the step of an ask makes: none or one. However a vacuum ends, it makes one
abbrev pub count_made : Params → Ask → Told → ℕ
count_made p ask told = length (made_by p (step_of ask told Ended))

-- Acts of others came, and then the one that the step makes, if it makes one. The position is right before that.
pub record Came (d : Desk) (old new : List Act) (at : ℕ) (o : Option Step) : Type 0 where
  pub others : List Act
  pub foreign : own_events d.number others ≡ []
  pub all : new ≡ (old ++ others) ++ map (act_of d.number) (made_by d.params o)
  pub here : at ≡ length old + length others

abbrev pub SaysOf : Desk → Index → List Act → Option Step → Type 0
SaysOf d base acts None = ⊤
SaysOf d base acts (Some s) = Says d.params base acts d.number s

-- A step that was made over these bases: the state at its position says what it tells; the ask is spent where an event was made; and
-- the log had room for the event.
pub record Stepped (over : Index → Type 0) (d : Desk) (old new : List Act) (ask left : Ask) (told : Told) : Type 0 where
  pub ending : Cleaned
  pub came : Came d old new told.at (step_of ask told ending)
  pub says : (base : Index) → over base → SaysOf d base (take told.at new) (step_of ask told ending)
  pub left_is : left ≡ left_of ask (made_by d.params (step_of ask told ending))
  pub fits : (e : Event) → made_by d.params (step_of ask told ending) ≡ e ∷ [] → is_lasting e ≡ true → used_after d.room new ≤ LOG_ROOM

-- ---- a step that was not made

-- What the ask would have told here makes a lasting event of this size, for which there is no room beside what is used.
pub record IsLogFull (d : Desk) (base : Index) (acts : List Act) (ask : Ask) (used size : ℕ) : Type 0 where
  pub told : Told
  pub ending : Cleaned
  pub step : Step
  pub would : step_of ask told ending ≡ Some step
  pub says : Says d.params base acts d.number step
  pub event : Event
  pub makes : step_events d.params step ≡ event ∷ []
  pub lasting : is_lasting event ≡ true
  pub size_is : size ≡ length (spelling event)
  pub used_is : used ≡ used_after d.room acts
  pub beyond : LOG_ROOM < used + taken_by event

abbrev pub IsCause : Desk → Index → List Act → Ask → StepFault → Type 0
IsCause d base acts ask (fault.LogFull used size) = IsLogFull d base acts ask used size
IsCause d base acts ask _ = ⊤

-- Acts of others may have come; of its own there is none, but one that counts a fault of the disks.
pub record Failed (over : Index → Type 0) (d : Desk) (old new : List Act) (ask : Ask) (fault : StepFault) : Type 0 where
  pub at : ℕ
  pub came : Came d old new at (fault_step fault)
  pub cause : (base : Index) → over base → IsCause d base new ask fault

-- ---- settling

-- So many lasting events are on the disks: all that the desk had seen, at least.
pub record Settles (d : Desk) (old new : List Act) (upto : ℕ) : Type 0 where
  pub at : ℕ
  pub came : Came d old new at (Some (Step.settled upto))
  pub all_seen : lasting_events old ≤ upto

abbrev pub IsLogFault : StepFault → Type 0
IsLogFault (fault.LogFull used size) = ⊤
IsLogFault _ = ⊥

-- it never fails for want of room in the log
pub record NotSettled (d : Desk) (old new : List Act) (fault : StepFault) : Type 0 where
  pub at : ℕ
  pub came : Came d old new at (fault_step fault)
  pub otherwise : IsLogFault fault → ⊥

-- ---- calls

-- the steps of a course, without their positions
abbrev pub steps_of : List (ℕ × Step) → List Step
steps_of course = map (λ s. s.1) course

abbrev pub events_of : Params → List Step → List Event
events_of p [] = []
events_of p (s ∷ steps) = step_events p s ++ events_of p steps

-- The step happened at this position of a history: the state there says so, and the event that it makes is the desk's act there.
pub record HappenedAt (base : Index) (acts : List Act) (d : Desk) (n : ℕ) (step : Step) : Type 0 where
  pub within : n ≤ length acts
  pub says : Says d.params base (take n acts) d.number step
  pub made : IsMadeAt acts d.number n (step_events d.params step)

abbrev pub Happened : Index → List Act → Desk → List (ℕ × Step) → Type 0
Happened base acts d [] = ⊤
Happened base acts d (s ∷ course) = HappenedAt base acts d s.0 s.1 × Happened base acts d course

-- A call: its steps at positions that do not fall, and over each of these bases each step happened there. Its own acts are just those
-- of its steps.
pub record Does (over : Index → Type 0) (d : Desk) (old new : List Act) (course : List (ℕ × Step)) : Type 0 where
  pub acts : Acts d.number old new (events_of d.params (steps_of course))
  pub rises : IsRising (length old) (map (λ s. s.0) course) (length new)
  pub happened : (base : Index) → over base → Happened base new d course

-- the course of one step at its position, or of none
abbrev pub course_at : ℕ → Option Step → List (ℕ × Step)
course_at n None = []
course_at n (Some s) = (n, s) ∷ []

-- a call whose course is as a word says
pub record DoesSo (P : List (ℕ × Step) → Type 0) (over : Index → Type 0) (d : Desk) (old new : List Act) : Type 0 where
  pub course : List (ℕ × Step)
  pub does : Does over d old new course
  pub is : P course

-- a call of which no more is said, as one that ended by a fault
abbrev pub DoesSome : (Index → Type 0) → Desk → List Act → List Act → Type 0
DoesSome over d old new = DoesSo (λ course. ⊤) over d old new

-- ---- courses

abbrev pub is_look : Step → Bool
is_look (did (looked look told)) = true
is_look (viewed look told) = true
is_look _ = false

-- the positions of the looks of a course, in order: what a trace tells
abbrev pub look_positions : List (ℕ × Step) → List ℕ
look_positions course = map (λ s. s.0) (filter (λ s. is_look s.1) course)

-- a call that only looks
abbrev pub Looks : List (ℕ × Step) → Type 0
Looks [] = ⊤
Looks (s ∷ course) = (is_look s.1 ≡ true) × Looks course

abbrev pub IsNoGate : Step → Type 0
IsNoGate (did (asked (Takes gate hold) reply)) = ⊥
IsNoGate (did (asked (Releases gate) reply)) = ⊥
IsNoGate _ = ⊤

-- a call that takes no gate and releases none
abbrev pub IsQuiet : List (ℕ × Step) → Type 0
IsQuiet [] = ⊤
IsQuiet (s ∷ course) = IsNoGate s.1 × IsQuiet course

-- the steps of a course are these deeds of a search or an insert, in order
abbrev pub AreDeeds : List (ℕ × Step) → List Deed → Type 0
AreDeeds [] [] = ⊤
AreDeeds [] (deed ∷ deeds) = ⊥
AreDeeds (s ∷ course) [] = ⊥
AreDeeds (s ∷ course) (deed ∷ deeds) = (s.1 ≡ did deed) × AreDeeds course deeds

-- ---- desks that split

-- the desk holds no gate
abbrev pub HoldsNone : List Act → ℕ → Type 0
HoldsNone acts desk = (gate : Gate) → Holds acts desk gate → ⊥

-- the two desks of a split: each was split once more, and the second has a number that no other desk has
abbrev pub first_half : Desk → Desk
first_half d = record d { depth = d.depth + 1 }

abbrev pub second_half : Desk → Desk
second_half d = record d { number = d.number + 2 ^ d.depth; depth = d.depth + 1 }

pub record AreHalves (first second : Desk) : Type 0 where
  pub whole : Desk
  pub first_is : first ≡ first_half whole
  pub second_is : second ≡ second_half whole

-- The acts go on after these, and none that comes then is by a desk whose number leaves the same by the power of two that this
-- desk's depth tells: such acts would be its own, or of desks that were split from it.
pub record GoesOnWithout (d : Desk) (old new : List Act) : Type 0 where
  pub more : List Act
  pub all : new ≡ old ++ more
  pub none : All (λ a. a.desk % 2 ^ d.depth ≢ d.number % 2 ^ d.depth) more

-- ---- a desk after a call

-- the same desk, later, and on each of these bases
pub record Goes {D : Type 0} (desk : D → Desk) (stands : D → Index → Type 0) (comes_from : D → D → Type 0) (over : Index → Type 0)
    (old new : D) : Type 0 where
  pub stays : desk new ≡ desk old
  pub still_stands : (base : Index) → over base → stands new base
  pub comes : comes_from new old
