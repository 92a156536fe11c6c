-- Both log areas as they go on, over events and new epochs: what every image of every moment reads as.
use Rattle.std.specs.Prelude.{◌≡◌, ◌⊎◌, ℕ, ◌+◌, ◌≤◌, List, [], ◌∷◌, ◌++◌, length, take, drop, map, Option, Some, None, Ok}
use Rattle.page_bytes.specs.Content.{Content}
use Rattle.vec_history.specs.declared.event.Event.{Event}
use Rattle.vec_outside.specs.Disk.{Disk, Image, LeavesOnly}
use Rattle.vec_outside.specs.declared.disks.Area.{Area}
use Rattle.vec_outside.specs.declared.disks.Area.TheVariants.{Log0, Log1}
use Rattle.page_log.specs.Aside.{IsAside, IsUnderSome, AreAll}
use Rattle.page_log.specs.Epoch.{head_in}
use Rattle.page_log.specs.Going.{Unsettled, IsBetween, IsGoing}
use Rattle.page_log.specs.NewEpochs.{NewEpoch, IsNewEpoch, base_of}
use Rattle.page_log.specs.Opening.{Epoch, ImagesOf, area_of, parity_of, front_at, chosen, images_end}
use Rattle.page_log.specs.Parts.{at_end}
use Rattle.page_log.specs.declared.limits.TheConstants.{HEAD, OPEN}

-- the other log area
abbrev pub other_log : Area → Area
other_log Log0 = Log1
other_log area = Log0

-- ---- what is held

-- the epoch that counts, its header and images, the events that are settled, and those that are pending; and a next epoch, which
-- stands whole in the other area and whose seal may be open
pub record Held : Type 0 where
  pub epoch : ℕ
  pub base : List ℕ
  pub settled : List Event
  pub pending : List Event
  pub next : Option NewEpoch

-- these bytes begin with an open header of this epoch, which nothing is wrong with
pub record IsNamedBase (epoch : ℕ) (base : List ℕ) : Type 0 where
  pub whole : HEAD ≤ length base
  pub front : front_at (parity_of (area_of epoch)) base ≡ Ok (Some (record { head = head_in base; bad = None }))
  pub number : (head_in base).epoch ≡ epoch

-- The image reads as this epoch, with all that is settled and, of what is pending, the first so many events.
pub record Reads (held : Held) (image : Image) : Type 0 where
  pub named : IsNamedBase held.epoch held.base
  pub counts : chosen image ≡ Ok (Some (area_of held.epoch, record { head = head_in held.base; bad = None }))
  pub holds : IsBetween held.base held.settled held.pending (image (area_of held.epoch))

-- behind the header stand these images, and nothing else
pub record HasImages (base : List ℕ) (images : List (ℕ × Content)) : Type 0 where
  pub are : ImagesOf base (head_in base) images None
  pub end_is : length base ≡ images_end (head_in base)

-- The epoch that is read is the one that is held, with these images: of its events, all that are settled and the first so many that
-- are pending.
pub record IsEpochOf (held : Held) (images : List (ℕ × Content)) (epoch : Epoch) : Type 0 where
  pub area : epoch.area ≡ area_of held.epoch
  pub head : epoch.head ≡ head_in held.base
  pub images_are : epoch.images ≡ images
  pub count : ℕ
  pub within : count ≤ length held.pending
  pub events : map (λ placed. placed.1) epoch.events ≡ held.settled ++ take count held.pending
  pub fine : epoch.bad ≡ None

-- what is held where an epoch was read
abbrev pub held_of : Image → Epoch → Held
held_of image epoch = record {
  epoch = epoch.head.epoch;
  base = take (images_end epoch.head) (image epoch.area);
  settled = map (λ placed. placed.1) epoch.events;
  pending = [];
  next = None;
}

-- an epoch that has just begun
abbrev pub begun : NewEpoch → Held
begun new = record { epoch = new.epoch; base = base_of new OPEN; settled = []; pending = []; next = None }

abbrev pub ReadsNext : Option NewEpoch → Image → Type 0
ReadsNext None image = ⊥
ReadsNext (Some new) image = Reads (begun new) image

-- it reads as the epoch that counts, or as the next one, with no event
abbrev pub ReadsAny : Held → Image → Type 0
ReadsAny held image = Reads held image ⊎ ReadsNext held.next image

-- ---- what is done

-- an event is added; a next epoch stands whole behind a closed seal, which may be opened from then on; it begins
pub data Change : Type 0 where
  Added : (event : Event) → Change
  Ready : (new : NewEpoch) → Change
  Begun : (new : NewEpoch) → Change

abbrev pub added : List Event → List Change
added events = map (λ event. Added event) events

abbrev pub changed : Held → Change → Held
changed held (Added event) = record held { pending = held.pending ++ event ∷ [] }
changed held (Ready new) = record held { next = Some new }
changed held (Begun new) = begun new

-- of what is pending, so many more events are settled
abbrev pub settled_more : ℕ → Held → Held
settled_more count held = record held { settled = held.settled ++ take count held.pending; pending = drop count held.pending }

-- all of it is
abbrev pub with_all_settled : Held → Held
with_all_settled held = record held { settled = held.settled ++ held.pending; pending = [] }

-- What the image reads as, where these changes are made one after the other, and at any moment between: one of the epochs that
-- counted, with no event that was settled before left out.
abbrev pub MayRead : Held → List Change → Image → Type 0
MayRead held [] image = ReadsAny held image
MayRead held (change ∷ changes) image = ReadsAny held image ⊎ MayRead (changed held change) changes image

-- what is held after these changes; of what is pending, some more may have been settled
abbrev pub HoldsAfter : Held → List Change → Held → Type 0
HoldsAfter held [] now = (count : ℕ) × (count ≤ length held.pending) × (now ≡ settled_more count held)
HoldsAfter held (change ∷ changes) now = HoldsAfter (changed held change) changes now

-- ---- how the areas stand

-- the log of the epoch that counts, and the next epoch
pub record Logs : Type 0 where
  pub log : Unsettled
  pub next : Option NewEpoch

abbrev pub alone : Unsettled → Logs
alone log = record { log = log; next = None }

abbrev pub before_next : Unsettled → NewEpoch → Logs
before_next log new = record { log = log; next = Some new }

-- the log of an epoch that has just begun
abbrev pub begun_log : NewEpoch → Unsettled
begun_log new = at_end (area_of new.epoch) (length (base_of new OPEN)) 0

-- a next epoch has the next number, and is made ready once all events are settled
pub record IsNext (held : Held) (new : NewEpoch) : Type 0 where
  pub good : IsNewEpoch new
  pub number : new.epoch ≡ held.epoch + 1
  pub settled : held.pending ≡ []

-- the other area: it does not count; or it holds the next epoch, whatever byte its seal is
abbrev pub AreBeside : Held → Option NewEpoch → Disk → Type 0
AreBeside held None disk =
    AreAll (IsAside (parity_of (other_log (area_of held.epoch))) held.epoch) (other_log (area_of held.epoch)) disk
AreBeside held (Some new) disk = IsNext held new × AreAll (IsUnderSome new) (other_log (area_of held.epoch)) disk

pub record IsStanding (logs : Logs) (disk : Disk) (held : Held) : Type 0 where
  pub area : logs.log.area ≡ area_of held.epoch
  pub next : held.next ≡ logs.next
  pub named : IsNamedBase held.epoch held.base
  pub going : IsGoing held.base logs.log disk held.settled held.pending
  pub beside : AreBeside held logs.next disk

-- From logs that held this, after these changes: what they hold now, and what every image of every moment between reads as.
pub record LogsGoOn (before : Disk) (new : Logs) (after : Disk) (held : Held) (changes : List Change) : Type 0 where
  pub now : Held
  pub leads : HoldsAfter held changes now
  pub standing : IsStanding new after now
  pub moments : LeavesOnly before after (MayRead held changes)

-- The one relation of a settle, of a new epoch, and of pages that are written.
abbrev pub LogsComeFrom : Logs → Disk → Logs → Disk → List Change → Type 0
LogsComeFrom old before new after changes = (held : Held) → IsStanding old before held → LogsGoOn before new after held changes
