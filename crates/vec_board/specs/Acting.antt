-- What one act makes of the core of a board, and of the pages that it touches.
use Rattle.std.specs.Prelude.{◌≡◌, ◌⊎◌, ℕ, ◌+◌, ◌<◌, ◌≤◌, ◌%◌, ◌^◌, ⊤, Bool, true, false, if◌then◌else◌, List, [], ◌∷◌, ◌++◌, length, Result, Ok, Err}
use Rattle.vec_names.specs.declared.params.Params.{Params}
use Rattle.vec_event.specs.Spelling.{spelling, IsWritable}
use Rattle.vec_history.specs.declared.event.Event.{Event}
use Rattle.vec_history.specs.declared.event.Act.{Act}
use Rattle.vec_history.specs.Acts.{act_of}
use Rattle.vec_history.specs.Settling.{is_lasting}
use Rattle.history_tables.specs.Rooms.{room_in_all, spent}
use Rattle.history_tables.specs.Telling.{Tells, IsToldEnd}
use Rattle.page_bytes.specs.Content.{Content}
use Rattle.page_redo.specs.Growing.{blocks_after}
use Rattle.page_redo.specs.Fitting.{FitsEach}
use Rattle.page_sets.specs.Sets.{PageMap}
use Rattle.page_sets.specs.Committing.{HasTouched, IsCommitted}
use Rattle.index_sizes.specs.declared.limits.TheConstants.{LOG_ROOM}
use Rattle.page_log.specs.Going.{Unsettled}
use Rattle.page_log.specs.Parts.{newer_of, unsettled, with_event}
use Rattle.vec_steps.specs.declared.fault.StepFault.{StepFault}
use Rattle.vec_steps.specs.declared.fault.StepFault.TheVariants as fault
use Rattle.vec_steps.specs.Index.{Index, IsLegal}
use Rattle.vec_steps.specs.Desks.{Room, taken_by, used_after}
use Rattle.index_pages.specs.Standing.{index_after}
use Rattle.vec_board.specs.declared.board_core.Core.{Core}
use Rattle.vec_board.specs.Keeping.{one_if_ends}
use Rattle.vec_board.specs.Ready.{IsReady, HasOwnRoom}
use Rattle.vec_board.specs.Summaries.{summary_after, IsLeft}
use Rattle.vec_board.specs.Standing.{StandsOn, acts_of}

-- from where the room of the log is counted
abbrev pub room_of : Core → Room
room_of core = record { used = core.used; since = core.since }

-- the number of the event behind this one: a lasting one takes a number
abbrev pub number_after : Event → ℕ → ℕ
number_after e number = if is_lasting e then (number + 1) % 2 ^ 64 else number

-- the log with a lasting event more
abbrev pub log_after : Unsettled → Event → Unsettled
log_after log e = if is_lasting e then with_event log e else log

-- The desk made this event: it is the last act now, one of the desk's room is spent, the event has its number, the log has it if it
-- is lasting, and the summary is the one after it.
pub record IsMade (old new : Core) (desk : ℕ) (e : Event) (left : ℕ) : Type 0 where
  pub acts : acts_of new ≡ acts_of old ++ act_of desk e ∷ []
  pub tells : Tells old.history.tables (acts_of old) → Tells new.history.tables (acts_of new)
  pub rooms : new.history.rooms.rooms.items ≡ spent desk old.history.rooms.rooms.items
  pub number : new.number ≡ number_after e old.number
  pub log : unsettled new.log ≡ log_after (unsettled old.log) e
  pub epoch : new.log.epoch ≡ old.log.epoch
  pub summary : new.summary ≡ summary_after old.summary e left
  pub params : new.params ≡ old.params
  pub room : room_of new ≡ room_of old

-- Nothing was made. There may be more memory.
pub record IsAsBefore (old new : Core) : Type 0 where
  pub acts : acts_of new ≡ acts_of old
  pub tells : (acts : List Act) → Tells old.history.tables acts → Tells new.history.tables acts
  pub rooms : new.history.rooms.rooms.items ≡ old.history.rooms.rooms.items
  pub number : new.number ≡ old.number
  pub log : unsettled new.log ≡ unsettled old.log
  pub epoch : new.log.epoch ≡ old.log.epoch
  pub summary : new.summary ≡ old.summary
  pub params : new.params ≡ old.params
  pub room : room_of new ≡ room_of old

-- ---- why nothing was made

-- so much is used of the epoch, and this event, which has this size, has no room beside it
pub record IsFull (core : Core) (e : Event) (used size : ℕ) : Type 0 where
  pub lasting : is_lasting e ≡ true
  pub used_is : used ≡ used_after (room_of core) (acts_of core)
  pub size_is : size ≡ length (spelling e)
  pub beyond : LOG_ROOM < used + taken_by e

-- No memory was found where it is wanted, for an act that has no room of its own or for pages; or the log has no room.
abbrev pub IsCause : Core → ℕ → Event → ℕ → StepFault → Type 0
IsCause core desk e grown fault.Memory = (HasOwnRoom core.history desk e → ⊥) ⊎ (1 ≤ grown)
IsCause core desk e grown (fault.LogFull used size) = IsFull core e used size
IsCause core desk e grown (fault.Disk count) = ⊥

-- the same, whatever base there is: it is never for the disks
abbrev pub IsCommitFault : Core → ℕ → Event → ℕ → StepFault → Type 0
IsCommitFault core desk e grown fault.Memory = (HasOwnRoom core.history desk e → ⊥) ⊎ (1 ≤ grown)
IsCommitFault core desk e grown (fault.LogFull used size) = ⊤
IsCommitFault core desk e grown (fault.Disk count) = ⊥

-- ---- pages

-- the same pages
abbrev pub IsSameSet : PageMap → PageMap → Type 0
IsSameSet old new = (block : ℕ) → new block ≡ old block

-- what an event makes of all pages, and of a set that has those that it touches: a passing one makes nothing
abbrev pub AreMade : Bool → PageMap → PageMap → List Content → List Content → Event → Params → ℕ → Type 0
AreMade true old new all after e p number = IsCommitted old new all after e p number
AreMade false old new all after e p number = (after ≡ all) × IsSameSet old new

-- What an act comes to, where the core stands on this base with these pages.
abbrev pub ComesTo : Core → Core → PageMap → PageMap → List Content → Index → ℕ → Event → ℕ → Result (Unit {0}) StepFault → Type 0
ComesTo old new before behind all base desk e grown (Ok done) =
    (after : List Content) × StandsOn new after base × AreMade (is_lasting e) before behind all after e old.params old.number
ComesTo old new before behind all base desk e grown (Err fault) = IsCause old desk e grown fault × IsSameSet before behind

-- What is asked of an act over a base: the rules allow it, the set has the pages that it touches, the rows that it leaves are these,
-- and it makes no more blocks than were told.
pub record MayCommit (old : Core) (set : PageMap) (all : List Content) (base : Index) (desk : ℕ) (e : Event) (left grown : ℕ) : Type 0 where
  pub stands : StandsOn old all base
  pub legal : IsLegal base (acts_of old ++ act_of desk e ∷ [])
  pub has : HasTouched set all e old.params
  pub left_is : IsLeft (index_after base (acts_of old)) e left
  pub grows : blocks_after e old.summary.blocks ≤ old.summary.blocks + grown

-- ---- helper words of the functions

-- the log has room for the act, and then for all in reserve
abbrev pub IsLogReady : Core → ℕ → Event → Type 0
IsLogReady core desk e = is_lasting e ≡ true → room_in_all (spent desk core.history.rooms.rooms.items) + 1 ≤ core.log.spare

-- a lasting event can be written, has room in the epoch, and makes no more blocks than this
pub record IsTaken (core : Core) (e : Event) (grown : ℕ) : Type 0 where
  pub written : IsWritable e
  pub room : (newer_of core.log).used + (length (spelling e) + 5) ≤ LOG_ROOM
  pub blocks : blocks_after e core.summary.blocks ≤ core.summary.blocks + grown
  pub few : blocks_after e core.summary.blocks < 2 ^ 32

-- There is room for the act, the log takes its event, and it ends what stands, if it is an end.
pub record IsPrepared (core : Core) (desk : ℕ) (e : Event) : Type 0 where
  pub ready : IsReady core.history desk e
  pub log : IsLogReady core desk e
  pub ends : one_if_ends e ≡ 1 → IsToldEnd core.history.tables desk e
  pub written : is_lasting e ≡ true → IsWritable e
  pub room : is_lasting e ≡ true → (newer_of core.log).used + (length (spelling e) + 5) ≤ LOG_ROOM
  pub few : is_lasting e ≡ true → blocks_after e core.summary.blocks < 2 ^ 32

-- what becomes of the pages for an act that is to be made
abbrev pub PagesComeTo : Core → PageMap → PageMap → List Content → ℕ → Event → ℕ → Result (Unit {0}) StepFault → Type 0
PagesComeTo old before behind all desk e grown (Ok done) =
    (after : List Content) × AreMade (is_lasting e) before behind all after e old.params old.number
PagesComeTo old before behind all desk e grown (Err fault) = IsCause old desk e grown fault × IsSameSet before behind

-- this event is one that the pages and the log take
pub record MayChange (core : Core) (all : List Content) (e : Event) (grown : ℕ) : Type 0 where
  pub fits : is_lasting e ≡ true → FitsEach all core.params e
  pub written : is_lasting e ≡ true → IsWritable e
  pub grows : blocks_after e core.summary.blocks ≤ core.summary.blocks + grown

abbrev pub IsChangeCause : Core → Event → ℕ → StepFault → Type 0
IsChangeCause core e grown fault.Memory = 1 ≤ grown
IsChangeCause core e grown (fault.LogFull used size) = IsFull core e used size
IsChangeCause core e grown (fault.Disk count) = ⊥

-- the only faults are want of memory for pages, and of room in the log
abbrev pub IsChangeFault : ℕ → StepFault → Type 0
IsChangeFault grown fault.Memory = 1 ≤ grown
IsChangeFault grown (fault.LogFull used size) = ⊤
IsChangeFault grown (fault.Disk count) = ⊥
