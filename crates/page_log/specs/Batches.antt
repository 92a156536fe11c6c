-- The batches of an epoch. A batch is its seal (1 byte), the length of its events (4) and its events one after the other, at
-- least one. The log ends at the first seal that is not open.
use Rattle.std.specs.Prelude.{◌≡◌, ◌≢◌, ◌⊎◌, ℕ, ◌+◌, ◌<◌, ◌≤◌, ◌^◌, List, [], ◌∷◌, ◌++◌, length, drop, Option, Some, None}
use Rattle.std.specs.Int.{w32, to_le_bytes}
use Rattle.std.specs.List.{flat_map}
use Rattle.page_log.specs.declared.limits.TheConstants.{OPEN}
use Rattle.index_sizes.specs.declared.limits.TheConstants.{LOG_ROOM}
use Rattle.vec_history.specs.declared.event.Event.{Event}
use Rattle.vec_event.specs.Spelling.{spelling, IsTyped, IsWritable}

-- an event with the place of its first byte
abbrev pub Placed : Type 0
Placed = ℕ × Event

-- ---- events

-- the bytes begin with this event's
pub record Begins (bytes : List ℕ) (event : Event) (rest : List ℕ) : Type 0 where
  pub typed : IsTyped event
  pub writable : IsWritable event
  pub same : bytes ≡ spelling event ++ rest

-- What stands in these bytes, the first of which is at a place: these events one after the other, up to the end, or up to
-- the place at which the bytes left begin with none.
abbrev pub AreEvents : ℕ → List ℕ → List Placed → Option ℕ → Type 0
AreEvents at bytes [] None = bytes ≡ []
AreEvents at bytes [] (Some place) = (place ≡ at) × (bytes ≢ []) × ((event : Event) (rest : List ℕ) → ¬ Begins bytes event rest)
AreEvents at bytes (placed ∷ events) bad =
    (placed.0 ≡ at) × ((rest : List ℕ) × Begins bytes placed.1 rest × AreEvents (at + length (spelling placed.1)) rest events bad)

-- what events take of the room of an epoch: 5 bytes each beside their own
abbrev pub room_of : List Placed → ℕ
room_of [] = 0
room_of (placed ∷ events) = length (spelling placed.1) + 5 + room_of events

-- ---- batches

abbrev pub IsOpenAt : List ℕ → ℕ → Type 0
IsOpenAt area at = (rest : List ℕ) × (drop at area ≡ OPEN ∷ rest)

-- from an open seal on a batch stands with these bytes of events, whole
pub record IsBatch (area : List ℕ) (at : ℕ) (bytes : List ℕ) : Type 0 where
  pub rest : List ℕ
  pub some : bytes ≢ []
  pub few : length bytes < 2 ^ 32
  pub same : drop at area ≡ OPEN ∷ to_le_bytes w32 (length bytes) ++ (bytes ++ rest)

-- no batch stands there whose events, up to the first that can't be read, the room allows
abbrev pub IsRefused : List ℕ → ℕ → ℕ → Type 0
IsRefused area at used =
    (bytes : List ℕ) (events : List Placed) (bad : Option ℕ) → IsBatch area at bytes → AreEvents (at + 5) bytes events bad
    → LOG_ROOM < used + room_of events

-- How a log ends: behind the batches that stand whole, with the events of one more that are read, where it stands
-- itself; what all of them take of the room; and the place of the batch or event that is bad, if one is.
pub record Tail : Type 0 where
  pub events : List Placed
  pub end : ℕ
  pub used : ℕ
  pub bad : Option ℕ

-- the batch at the end is bad at its seal
pub record EndsRefused (area : List ℕ) (at used : ℕ) (tail : Tail) (place : ℕ) : Type 0 where
  pub refused : IsRefused area at used
  pub place_is : place ≡ at
  pub none : tail.events ≡ []
  pub used_is : tail.used ≡ used

-- the batch at the end is bad at one of its events
pub record EndsWithin (area : List ℕ) (at used : ℕ) (tail : Tail) (place : ℕ) : Type 0 where
  pub bytes : List ℕ
  pub batch : IsBatch area at bytes
  pub events : AreEvents (at + 5) bytes tail.events (Some place)
  pub used_is : tail.used ≡ used + room_of tail.events
  pub fits : tail.used ≤ LOG_ROOM

abbrev pub EndsBy : List ℕ → ℕ → ℕ → Tail → Option ℕ → Type 0
EndsBy area at used tail None = ¬ IsOpenAt area at × (tail.events ≡ []) × (tail.used ≡ used)
EndsBy area at used tail (Some place) = IsOpenAt area at × (EndsRefused area at used tail place ⊎ EndsWithin area at used tail place)

-- The batches from a place on, where so much of the room is used: the events of each that stands whole, and how they end.
abbrev pub AreBatches : List ℕ → ℕ → ℕ → List (List Placed) → Tail → Type 0
AreBatches area at used [] tail = (tail.end ≡ at) × EndsBy area at used tail tail.bad
AreBatches area at used (events ∷ batches) tail =
    (bytes : List ℕ) × IsBatch area at bytes × AreEvents (at + 5) bytes events None × (used + room_of events ≤ LOG_ROOM)
    × AreBatches area (at + 5 + length bytes) (used + room_of events) batches tail

-- the log of an area from the end of its images on: its events with their places, where it ends, what its events take of the
-- room, and the place of what is bad
pub record IsLog (area : List ℕ) (at : ℕ) (events : List Placed) (end used : ℕ) (bad : Option ℕ) : Type 0 where
  pub batches : List (List Placed)
  pub last : List Placed
  pub are : AreBatches area at 0 batches (record { events = last; end = end; used = used; bad = bad })
  pub events_are : events ≡ flat_map (λ batch. batch) batches ++ last
