-- What finding and reading one batch makes of what was read before.
use Rattle.std.specs.Prelude.{◌≡◌, ◌⊎◌, ℕ, ◌+◌, ◌<◌, ◌≤◌, ◌∷◌, ◌^◌, ◌++◌, true, List, [], Option, Some, None, length, take, drop}
use Rattle.std.specs.Int.{w32, to_le_bytes}
use Rattle.page_log.specs.Batches.{Placed, Begins, AreEvents, AreBatches, IsBatch, IsOpenAt, room_of}
use Rattle.page_log.specs.declared.finding.Found.{Found}
use Rattle.page_log.specs.declared.finding.Found.TheVariants.{Closed, Bad, Batch}
use Rattle.vec_event.specs.Spelling.{spelling}
use Rattle.vec_history.specs.declared.event.Event.{Event}
use Rattle.vec_outside.specs.Disk.{Disk, IsImage, IsKept, LeavesOnly}
use Rattle.page_log.specs.declared.batches.Run.{Run}
use Rattle.page_log.specs.declared.events.Piece.{Piece}
use Rattle.page_log.specs.declared.limits.TheConstants.{OPEN}
use Rattle.index_sizes.specs.declared.limits.TheConstants.{LOG_ROOM}

-- ---- events by pieces

-- the bytes, the first of which stands at a place, begin with these events one after the other, and go on with the rest
abbrev pub AreFirst : ℕ → List ℕ → List Placed → List ℕ → Type 0
AreFirst at bytes [] rest = bytes ≡ rest
AreFirst at bytes (placed ∷ events) rest =
    (placed.0 ≡ at) × ((behind : List ℕ) × Begins bytes placed.1 behind × AreFirst (at + length (spelling placed.1)) behind events rest)

-- no event begins these bytes, and where they are bad, none does whatever follows them
abbrev pub BeginNone : List ℕ → Type 0
BeginNone bytes = (event : Event) (rest : List ℕ) → ¬ Begins bytes event rest

abbrev pub IsBad : List ℕ → Type 0
IsBad bytes = (more : List ℕ) → BeginNone (bytes ++ more)

-- the events that stand whole at the front of a piece were added
pub record AddsFirst (at : ℕ) (bytes : List ℕ) (old new : List Placed) (piece : Piece) : Type 0 where
  pub more : List Placed
  pub items : new ≡ old ++ more
  pub rest : List ℕ
  pub first : AreFirst at bytes more rest
  pub len_is : piece.len + length rest ≡ length bytes
  pub none : BeginNone rest
  pub bad : piece.bad ≡ true → IsBad rest

-- ---- batches

-- all of its events are read, and have room
pub record TakesWhole (old new : Run) (bytes : List ℕ) : Type 0 where
  pub more : List Placed
  pub are : AreEvents (old.end + 5) bytes more None
  pub events : new.events.items ≡ old.events.items ++ more
  pub used : new.used ≡ old.used + room_of more
  pub fits : new.used ≤ LOG_ROOM
  pub end_is : new.end ≡ old.end + 5 + length bytes
  pub bad_is : new.bad ≡ None

-- its events up to the first that can't be read are more than the room allows
pub record TakesTooMuch (old new : Run) (bytes : List ℕ) : Type 0 where
  pub more : List Placed
  pub bad : Option ℕ
  pub are : AreEvents (old.end + 5) bytes more bad
  pub over : LOG_ROOM < old.used + room_of more
  pub events : new.events.items ≡ old.events.items
  pub used : new.used ≡ old.used
  pub end_is : new.end ≡ old.end
  pub bad_is : new.bad ≡ Some old.end

-- one of its events can't be read, and those before it have room
pub record TakesPart (old new : Run) (bytes : List ℕ) : Type 0 where
  pub more : List Placed
  pub place : ℕ
  pub are : AreEvents (old.end + 5) bytes more (Some place)
  pub events : new.events.items ≡ old.events.items ++ more
  pub used : new.used ≡ old.used + room_of more
  pub fits : new.used ≤ LOG_ROOM
  pub end_is : new.end ≡ old.end
  pub bad_is : new.bad ≡ Some place

abbrev pub StopsAt : Run → Run → List ℕ → Type 0
StopsAt old new bytes = TakesTooMuch old new bytes ⊎ TakesPart old new bytes

-- A batch with so many bytes of events was taken in whole: it takes no fewer bytes of the room than it has.
pub record Moves (old new : Run) (len : ℕ) : Type 0 where
  pub end_is : new.end ≡ old.end + 5 + len
  pub covers : 5 + len + old.used ≤ new.used
  pub fits : new.used ≤ LOG_ROOM
  pub bad_is : new.bad ≡ None

-- ---- on disks

-- a run of calls that write nothing
pub record OnlyReads (old new : Disk) : Type 0 where
  pub kept : IsKept old new
  pub moments : LeavesOnly old new (IsImage old)

-- the seal and the length of a batch with so many bytes of events
pub record IsFront (front : List ℕ) (len : ℕ) : Type 0 where
  pub some : 0 < len
  pub few : len < 2 ^ 32
  pub same : front ≡ OPEN ∷ to_le_bytes w32 len

-- so many bytes of an area behind the front of a batch
abbrev pub bytes_of : List ℕ → ℕ → ℕ → List ℕ
bytes_of area at len = take len (drop (at + 5) area)

-- what stands at a place of an area: no open seal, one with no batch, or a batch with so many bytes of events
abbrev pub IsFound : List ℕ → ℕ → Found → Type 0
IsFound area at Closed = ¬ IsOpenAt area at
IsFound area at Bad = IsOpenAt area at × ((bytes : List ℕ) → ¬ IsBatch area at bytes)
IsFound area at (Batch len) = IsBatch area at (bytes_of area at len)

-- it is a batch with so many bytes of events, which lies within so many
abbrev pub LiesIn : ℕ → ℕ → Found → Type 0
LiesIn size at Closed = Unit {0}
LiesIn size at Bad = Unit {0}
LiesIn size at (Batch len) = (0 < len) × (at + 5 + len ≤ size)

-- a batch was taken in whole
pub record GoesOn (area : List ℕ) (old new : Run) : Type 0 where
  pub bytes : List ℕ
  pub batch : IsBatch area old.end bytes
  pub whole : TakesWhole old new bytes

-- the log ends here
pub record Ends (area : List ℕ) (old new : Run) : Type 0 where
  pub last : List Placed
  pub events : new.events.items ≡ old.events.items ++ last
  pub are : AreBatches area old.end old.used [] (record { events = last; end = new.end; used = new.used; bad = new.bad })
