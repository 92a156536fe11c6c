-- A log that goes on: which of its events are settled, which are still to be written, and what a crash leaves of both.
use Rattle.std.specs.Prelude.{◌≡◌, ◌≢◌, ℕ, ◌+◌, ◌-◌, ◌<◌, ◌≤◌, Bool, true, false, List, [], ◌∷◌, ◌++◌, length, take, drop, map, None, ⊤}
use Rattle.std.specs.Int.{w32, to_le_bytes}
use Rattle.std.specs.List.{flat_map}
use Rattle.vec_event.specs.Spelling.{spelling, IsTyped, IsWritable}
use Rattle.vec_history.specs.declared.event.Event.{Event}
use Rattle.vec_outside.specs.Disk.{Disk, LeavesOnly}
use Rattle.vec_outside.specs.declared.disks.Area.{Area}
use Rattle.page_log.specs.Batches.{Placed, Tail, AreBatches, IsLog}
use Rattle.page_log.specs.declared.limits.TheConstants.{OPEN}
use Rattle.index_sizes.specs.declared.limits.TheConstants.{LOG_ROOM}

-- ---- events

-- lasting events with no value that is not allowed
abbrev pub AreWritable : List Event → Type 0
AreWritable [] = ⊤
AreWritable (event ∷ events) = IsTyped event × IsWritable event × AreWritable events

-- their bytes, one after the other
abbrev pub spelled : List Event → List ℕ
spelled [] = []
spelled (event ∷ events) = spelling event ++ spelled events

-- what they take of the room of an epoch
abbrev pub room : List Event → ℕ
room [] = 0
room (event ∷ events) = length (spelling event) + 5 + room events

-- what stands behind the seal of a batch with these bytes of events: their length, they, and a closed seal
abbrev pub body_of : List ℕ → List ℕ
body_of [] = []
body_of (byte ∷ bytes) = to_le_bytes w32 (length (byte ∷ bytes)) ++ ((byte ∷ bytes) ++ 0 ∷ [])

-- the bytes of events in it
abbrev pub payload : List ℕ → List ℕ
payload body = take (length body - 5) (drop 4 body)

-- ---- what an area holds

-- The area begins with these bytes, and behind them its batches are those of these events, the last one whole.
pub record Holds (base : List ℕ) (events : List Event) (area : List ℕ) : Type 0 where
  pub base_is : take (length base) area ≡ base
  pub placed : List Placed
  pub end : ℕ
  pub used : ℕ
  pub log : IsLog area (length base) placed end used None
  pub events_are : map (λ placed. placed.1) placed ≡ events

-- all that are settled, and of the others the first so many
abbrev pub IsBetween : List ℕ → List Event → List Event → List ℕ → Type 0
IsBetween base settled pending area = (count : ℕ) × (count ≤ length pending) × Holds base (settled ++ take count pending) area

-- Whatever follows this front, an area holds these events, which take so much of the room, and then what follows.
pub record LeadsTo (base front : List ℕ) (settled : List Event) (used : ℕ) : Type 0 where
  pub begins : (rest : List ℕ) → take (length base) (front ++ rest) ≡ base
  pub batches : List (List Placed)
  pub events : map (λ placed. placed.1) (flat_map (λ batch. batch) batches) ≡ settled
  pub goes_on : (rest : List ℕ) (more : List (List Placed)) (tail : Tail)
      → AreBatches (front ++ rest) (length front) used more tail → AreBatches (front ++ rest) (length base) 0 (batches ++ more) tail

-- behind a seal: it is closed, or a batch stands whole behind it
abbrev pub IsBehind : Bool → List ℕ → ℕ → List ℕ → Type 0
IsBehind false body seal rest = seal ≢ OPEN
IsBehind true body seal rest = (0 < length body) × ((after : List ℕ) × (rest ≡ body ++ after))

-- a front, a seal, and what stands behind it
pub record IsSealed (front : List ℕ) (fixed : Bool) (body : List ℕ) (bytes : List ℕ) : Type 0 where
  pub seal : ℕ
  pub rest : List ℕ
  pub split : bytes ≡ front ++ seal ∷ rest
  pub behind : IsBehind fixed body seal rest

-- ---- what is not settled

-- the events that were not taken out: their bytes, how many they are, and what all events of the epoch take of its room
pub record Newer : Type 0 where
  pub bytes : List ℕ
  pub count : ℕ
  pub used : ℕ

-- The next seal's place in an area; the batch that was taken out or put back, as it stands behind that seal, with the number of
-- its events; whether it is fixed, so that the seal alone is to be written; whether the byte at the area's end is; and the newer
-- events.
pub record Unsettled : Type 0 where
  pub area : Area
  pub at : ℕ
  pub bare : Bool
  pub fixed : Bool
  pub body : List ℕ
  pub events : ℕ
  pub newer : Newer

-- Every image of the area has the settled events, and at the next seal's place a closed seal or the seal of the fixed batch;
-- the events that are pending are those of the batch and the newer ones, and all have room.
pub record IsGoing (base : List ℕ) (log : Unsettled) (disk : Disk) (settled pending : List Event) : Type 0 where
  pub front : List ℕ
  pub before : ℕ
  pub batch : List Event
  pub fresh : List Event
  pub leads : LeadsTo base front settled before
  pub place : log.at ≡ length front
  pub pending_are : pending ≡ batch ++ fresh
  pub writable : AreWritable pending
  pub body : log.body ≡ body_of (spelled batch)
  pub events : log.events ≡ length batch
  pub newer : log.newer.bytes ≡ spelled fresh
  pub count : log.newer.count ≡ length fresh
  pub used : log.newer.used ≡ before + room pending
  pub fits : log.newer.used ≤ LOG_ROOM
  pub images : (bytes : List ℕ) → disk.leaves log.area bytes → (log.bare ≡ false) × IsSealed front log.fixed log.body bytes

-- From a log that was going with the disk, while these events were added: some more of its events are settled, in order, and
-- every image of every moment has all that were settled and some of the others, in order.
pub record GoesOn (base : List ℕ) (old : Unsettled) (before : Disk) (new : Unsettled) (after : Disk)
    (settled pending : List Event) : Type 0 where
  pub count : ℕ
  pub within : count ≤ length pending
  pub going : IsGoing base new after (settled ++ take count pending) (drop count pending)
  pub moments : LeavesOnly before after (λ image. IsBetween base settled pending (image old.area))

-- The other areas are read as before, and no image of any moment has more of them.
pub record KeepsOthers (area : Area) (before after : Disk) : Type 0 where
  pub seen : (other : Area) → other ≢ area → after.seen other ≡ before.seen other
  pub leaves : (other : Area) (bytes : List ℕ) → other ≢ area → after.leaves other bytes → before.leaves other bytes
  pub moments : LeavesOnly before after (λ image. (other : Area) → other ≢ area → before.leaves other (image other))

pub record ComesFrom (old : Unsettled) (before : Disk) (new : Unsettled) (after : Disk) (added : List Event) : Type 0 where
  pub area : new.area ≡ old.area
  pub others : KeepsOthers old.area before after
  pub goes_on : (base : List ℕ) (settled pending : List Event) → IsGoing base old before settled pending
      → GoesOn base old before new after settled (pending ++ added)

-- all that was pending is settled
abbrev pub SettlesAll : Unsettled → Disk → Unsettled → Disk → Type 0
SettlesAll old before new after =
    (base : List ℕ) (settled pending : List Event) → IsGoing base old before settled pending
    → IsGoing base new after (settled ++ pending) []
