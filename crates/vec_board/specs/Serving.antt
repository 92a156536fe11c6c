-- What an ask of a desk comes to at the core of a board: the events that it makes, none or one, and what they leave.
use Rattle.std.specs.Prelude.{◌≡◌, ◌≢◌, ℕ, ⊤, ◌==◌, if◌then◌else◌, max, List, [], ◌∷◌}
use Rattle.vec_names.specs.declared.params.Params.{Params}
use Rattle.vec_history.specs.declared.event.Event.{Event}
use Rattle.vec_history.specs.declared.event.Event.TheVariants as event
use Rattle.vec_history.specs.declared.event.Act.{Act}
use Rattle.vec_history.specs.declared.stage.Stage.{Stage}
use Rattle.vec_history.specs.declared.stage.Stage.TheVariants.{Mark}
use Rattle.vec_history.specs.Phases.{IsInPhase}
use Rattle.vec_history.specs.Settling.{is_lasting}
use Rattle.history_tables.specs.declared.tables.Phase.{Phase}
use Rattle.history_tables.specs.Telling.{Tells}
use Rattle.history_tables.specs.Rooms.{room_of}
use Rattle.page_bytes.specs.Content.{Content}
use Rattle.page_sets.specs.Sets.{PageMap}
use Rattle.vec_steps.specs.declared.ask.Ask.{Ask}
use Rattle.vec_steps.specs.declared.ask.Ask.TheVariants as ask
use Rattle.vec_steps.specs.declared.told.Told.{Told}
use Rattle.vec_steps.specs.declared.told.Word.TheVariants as word
use Rattle.vec_steps.specs.Index.{Index}
use Rattle.vec_steps.specs.Doing.{Cleaned, Ended, Cancelled}
use Rattle.vec_steps.specs.Telling.{step_of}
use Rattle.vec_steps.specs.Desks.{MayAsk}
use Rattle.vec_steps.specs.Calls.{SaysOf}
use Rattle.vec_board.specs.declared.board_core.Core.{Core}
use Rattle.page_log.specs.Parts.{unsettled}
use Rattle.vec_board.specs.Standing.{StandsOn, acts_of}
use Rattle.vec_board.specs.Acting.{IsMade, IsAsBefore, IsSameSet, AreMade}
use Rattle.vec_board.specs.Acting as board
use Rattle.vec_board.specs.Looking.{desk_of}

-- the core made just these events, none or one
abbrev pub MakesJust : Core → Core → ℕ → List Event → Type 0
MakesJust old new desk [] = IsAsBefore old new
MakesJust old new desk (e ∷ es) = (left : ℕ) × IsMade old new desk e left

-- what they made of all pages, and of a set that has those that they touch
abbrev pub AreMadeBy : List Event → PageMap → PageMap → List Content → List Content → Params → ℕ → Type 0
AreMadeBy [] old new all after p number = (after ≡ all) × IsSameSet old new
AreMadeBy (e ∷ es) old new all after p number = AreMade (is_lasting e) old new all after e p number

-- There is a list of all pages on which the core stands now, which these events made, and the set has its part of it.
abbrev pub Leaves : Core → Core → PageMap → PageMap → List Content → Index → List Event → Type 0
Leaves old new before behind all base events =
    (after : List Content) × StandsOn new after base × AreMadeBy events before behind all after old.params old.number

-- the core stands on this base with some list of all pages
abbrev pub StandsSomehow : Core → Index → Type 0
StandsSomehow core base = (all : List Content) × StandsOn core all base

-- for how many acts a desk has room in reserve
abbrev pub spare_of : Core → ℕ → ℕ
spare_of core desk = room_of core.history.rooms.rooms.items desk

-- ---- room in reserve

-- they ask for room, or for nothing
abbrev pub IsOfRoom : Ask → Type 0
IsOfRoom ask.Spent = ⊤
IsOfRoom (ask.Reserve events) = ⊤
IsOfRoom _ = ⊥

-- The desk has room for so many acts at least, and each other desk what it had. Nothing was made.
pub record IsReserved (old new : Core) (desk events : ℕ) : Type 0 where
  pub acts : acts_of new ≡ acts_of old
  pub tells : (acts : List Act) → Tells old.history.tables acts → Tells new.history.tables acts
  pub own : spare_of new desk ≡ max events (spare_of old desk)
  pub others : (other : ℕ) → other ≢ desk → spare_of new other ≡ spare_of old other
  pub number : new.number ≡ old.number
  pub log : unsettled new.log ≡ unsettled old.log
  pub epoch : new.log.epoch ≡ old.log.epoch
  pub summary : new.summary ≡ old.summary
  pub params : new.params ≡ old.params
  pub room : board.room_of new ≡ board.room_of old

-- the core made these events, none or one; or the desk has more room in reserve
abbrev pub MakesFor : Core → Core → ℕ → Ask → List Event → Type 0
MakesFor old new desk (ask.Reserve events) made = IsReserved old new desk events
MakesFor old new desk _ made = MakesJust old new desk made

-- ---- asks of gates and of a vacuum's passes

-- they go to no page
abbrev pub IsTurn : Ask → Type 0
IsTurn (ask.Take gate hold) = ⊤
IsTurn (ask.Release gate) = ⊤
IsTurn (ask.Phase stage) = ⊤
IsTurn ask.EndVacuum = ⊤
IsTurn _ = ⊥

-- a gate was asked for, and the word is that another desk holds it
abbrev pub IsBusy : Ask → Told → Type 0
IsBusy (ask.Take gate hold) t = t.word ≡ word.Busy
IsBusy _ t = ⊥

-- how a vacuum ended, by its event
abbrev pub ending_of : Event → Cleaned
ending_of (event.Cancel stage) = Cancelled stage
ending_of _ = Ended

-- how a vacuum ends in this phase, where so many nodes are doomed
abbrev pub end_in : Stage → ℕ → Event
end_in Mark doomed = if doomed == 0 then event.VacuumEnd else event.Cancel Mark
end_in stage doomed = event.Cancel stage

-- the event is one that the ask makes
abbrev pub IsTurnOf : Ask → Event → Type 0
IsTurnOf (ask.Take gate hold) e = e ≡ event.Gate gate hold
IsTurnOf (ask.Release gate) e = e ≡ event.Ungate gate
IsTurnOf (ask.Phase stage) e = e ≡ event.Phase stage
IsTurnOf ask.EndVacuum e = (stage : Stage) × (doomed : ℕ) × (e ≡ end_in stage doomed)
IsTurnOf _ e = ⊥

-- ---- helper words of the functions

abbrev pub IsTake : Ask → Type 0
IsTake (ask.Take gate hold) = ⊤
IsTake _ = ⊥

-- the end of a vacuum in the phase that stands
pub record EndsPhase (core : Core) (e : Event) : Type 0 where
  pub phase : Phase
  pub stands : (acts : List Act) → Tells core.history.tables acts → IsInPhase acts phase.desk phase.stage
  pub is : e ≡ end_in phase.stage core.summary.doomed

-- over each base on which the core stands the event is what the index says to the ask, whatever else is told
abbrev pub SaysTurn : Core → Ask → Event → Type 0
SaysTurn core asked e = (desk : ℕ) (all : List Content) (base : Index) (told : Told) → StandsOn core all base
    → MayAsk (desk_of core desk) base (acts_of core) asked
    → SaysOf (desk_of core desk) base (acts_of core) (step_of asked told (ending_of e))

-- the desk made the event of its ask
pub record MakesTurn (old new : Core) (desk : ℕ) (asked : Ask) : Type 0 where
  pub event : Event
  pub of : IsTurnOf asked event
  pub made : IsMade old new desk event 0
  pub says : SaysTurn old asked event
