-- What the two log areas read as, by their bytes alone: no index, an epoch with its images and events, or the place of what
-- is wrong.
use Rattle.std.specs.Prelude.{◌≡◌, ◌⊎◌, ℕ, ◌+◌, ◌*◌, ◌%◌, ◌^◌, ◌<◌, ◌≤◌, nat_lt, ◌==◌, if◌then◌else◌, List, [], ◌∷◌, length, Option, Some, None, Result, Ok, Err, ⊤}
use Rattle.index_sizes.specs.declared.limits.TheConstants.{LOG_ROOM, MOST_BLOCKS}
use Rattle.page_bytes.specs.Content.{Content}
use Rattle.page_log.specs.Batches.{Placed, IsLog}
use Rattle.page_log.specs.Epoch.{is_open, named_head, bad_size, AreImages}
use Rattle.page_log.specs.declared.limits.TheConstants.{HEAD, IMAGE}
use Rattle.page_log.specs.declared.front.Front.{Front}
use Rattle.page_log.specs.declared.head.Head.{Head}
use Rattle.page_log.specs.declared.opening.ReadLog.{ReadLog}
use Rattle.page_log.specs.declared.opening_fault.OpenFault.{OpenFault}
use Rattle.page_log.specs.declared.opening_fault.OpenFault.TheVariants as faults
use Rattle.vec_outside.specs.Disk.{Image}
use Rattle.vec_outside.specs.declared.disks.Area.{Area}
use Rattle.vec_outside.specs.declared.disks.Area.TheVariants.{Log0, Log1}

-- ---- which area counts

-- the area of an epoch: the first log for an odd one, the second for an even one
abbrev pub area_of : ℕ → Area
area_of epoch = if epoch % 2 == 1 then Log0 else Log1

-- the parity of the epochs of a log area
abbrev pub parity_of : Area → ℕ
parity_of Log0 = 1
parity_of area = 0

-- a place in an area
abbrev pub Spot : Type 0
Spot = Area × ℕ

-- the header, beside the place of what is wrong with its sizes
abbrev pub front_with : Option ℕ → Result Head ℕ → Result (Option Front) ℕ
front_with bad (Ok head) = Ok (Some (record { head = head; bad = bad }))
front_with bad (Err at) = Err at

-- what stands at the front of an area: nothing where it isn't open, a header, or the place of what is wrong with its magic or
-- its epoch
abbrev pub front_at : ℕ → List ℕ → Result (Option Front) ℕ
front_at parity area = if is_open area then front_with (bad_size area) (named_head parity area) else Ok None

-- Of two open areas the one of the greater epoch counts; what is wrong with either goes before, with the first log's first.
abbrev pub picked : Result (Option Front) ℕ → Result (Option Front) ℕ → Result (Option (Area × Front)) Spot
picked (Err at) second = Err (Log0, at)
picked (Ok first) (Err at) = Err (Log1, at)
picked (Ok None) (Ok None) = Ok None
picked (Ok (Some first)) (Ok None) = Ok (Some (Log0, first))
picked (Ok None) (Ok (Some second)) = Ok (Some (Log1, second))
picked (Ok (Some first)) (Ok (Some second)) =
    if nat_lt first.head.epoch second.head.epoch then Ok (Some (Log1, second)) else Ok (Some (Log0, first))

-- the area that counts, with what stands at its front
abbrev pub chosen : Image → Result (Option (Area × Front)) Spot
chosen image = picked (front_at (parity_of Log0) (image Log0)) (front_at (parity_of Log1) (image Log1))

-- ---- what is read

-- an epoch that is read: its area, its header, its base images, and its log
pub record Epoch : Type 0 where
  pub area : Area
  pub head : Head
  pub images : List (ℕ × Content)
  pub events : List Placed
  pub end : ℕ
  pub used : ℕ
  pub bad : Option ℕ

-- the images that a header tells, behind it: all, or those before the place at which none stands
abbrev pub ImagesOf : List ℕ → Head → List (ℕ × Content) → Option ℕ → Type 0
ImagesOf area head images bad = AreImages area head.blocks head.images 0 HEAD images bad

-- where the images that a header tells end
abbrev pub images_end : Head → ℕ
images_end head = HEAD + IMAGE * head.images

-- an area with this header, whose sizes are right, has these images, and behind them this log
pub record IsEpoch (area : List ℕ) (epoch : Epoch) : Type 0 where
  pub images : ImagesOf area epoch.head epoch.images None
  pub log : IsLog area (images_end epoch.head) epoch.events epoch.end epoch.used epoch.bad

-- in an area with this header, whose sizes are right, no image stands at the place of one
abbrev pub IsCut : List ℕ → Head → ℕ → Type 0
IsCut area head at = (images : List (ℕ × Content)) × ImagesOf area head images (Some at)

-- What the log areas read as: nothing where none is open; an epoch; or the place of what is wrong in the area that counts, or of
-- what is wrong with the name of either.
abbrev pub ReadsAs : Image → Result (Option Epoch) Spot → Type 0
ReadsAs image (Ok None) = chosen image ≡ Ok None
ReadsAs image (Ok (Some epoch)) =
    (chosen image ≡ Ok (Some (epoch.area, record { head = epoch.head; bad = None }))) × IsEpoch (image epoch.area) epoch
ReadsAs image (Err spot) =
    (chosen image ≡ Err spot)
    ⊎ ((head : Head) × (chosen image ≡ Ok (Some (spot.0, record { head = head; bad = Some spot.1 }))))
    ⊎ ((head : Head) × (chosen image ≡ Ok (Some (spot.0, record { head = head; bad = None }))) × IsCut (image spot.0) head spot.1)

-- ---- what a call tells of it

abbrev pub epoch_of : ReadLog → Epoch
epoch_of log = record {
  area = log.area;
  head = record { form = log.form; epoch = log.epoch; before = log.before; blocks = log.blocks; images = length log.images.items };
  images = log.images.items;
  events = log.events.items;
  end = log.end;
  used = log.used;
  bad = log.bad;
}

abbrev pub told_by : Option ReadLog → Option Epoch
told_by None = None
told_by (Some log) = Some (epoch_of log)

abbrev pub IsRead : Image → Result (Option ReadLog) Spot → Type 0
IsRead image (Ok log) = ReadsAs image (Ok (told_by log))
IsRead image (Err spot) = ReadsAs image (Err spot)

-- what the areas read as; of want of memory and of faults nothing is said
abbrev pub IsReading : Image → Result (Option ReadLog) OpenFault → Type 0
IsReading image (Ok log) = ReadsAs image (Ok (told_by log))
IsReading image (Err faults.Memory) = ⊤
IsReading image (Err (faults.Disk count)) = ⊤
IsReading image (Err (faults.NotIndex area at)) = ReadsAs image (Err (area, at))
IsReading image (Err (faults.BadEvent area at)) = ⊥

-- ---- what is known of it in any case

-- What is known of a header that was taken: its epoch has the area's parity, and where nothing is wrong with its sizes they are
-- in range.
pub record IsNamed (parity : ℕ) (front : Front) : Type 0 where
  pub form : 1 ≤ front.head.form
  pub epoch : 1 ≤ front.head.epoch
  pub suits : front.head.epoch % 2 ≡ parity
  pub sizes : front.bad ≡ None → (1 ≤ front.head.blocks) × (front.head.blocks ≤ MOST_BLOCKS) × (front.head.images ≤ front.head.blocks)

-- the blocks of the images rise, from a least one on and below a number of blocks
abbrev pub RisesBelow : ℕ → ℕ → List (ℕ × Content) → Type 0
RisesBelow least blocks [] = ⊤
RisesBelow least blocks (image ∷ images) = (least ≤ image.0) × (image.0 < blocks) × RisesBelow (image.0 + 1) blocks images

-- what a log asks of the epoch that it goes on in
pub record IsInRange (log : ReadLog) : Type 0 where
  pub form : 1 ≤ log.form
  pub epoch : 1 ≤ log.epoch
  pub area : log.area ≡ area_of log.epoch
  pub some : 1 ≤ log.blocks
  pub few : log.blocks ≤ MOST_BLOCKS
  pub images : RisesBelow 0 log.blocks log.images.items
  pub begins : HEAD ≤ log.end
  pub ends : log.end ≤ 2 ^ 32
  pub used : log.used ≤ LOG_ROOM

-- a log that was read of an area with this header
pub record IsLogOf (area : Area) (head : Head) (log : ReadLog) : Type 0 where
  pub of_area : log.area ≡ area
  pub of_head : (epoch_of log).head ≡ head
  pub images : RisesBelow 0 head.blocks log.images.items
  pub begins : HEAD ≤ log.end
  pub ends : log.end ≤ 2 ^ 32
  pub used : log.used ≤ LOG_ROOM
