-- Words for the parts of an opening: what each function makes of what it is given.
use Rattle.std.specs.Prelude.{◌≡◌, ◌⊎◌, ℕ, ◌*◌, ◌<◌, ◌≤◌, ◌↔◌, ◌+◌, ◌%◌, ◌^◌, List, Option, Some, None, Result, Ok, Err, ⊤, All, Bool, true, false, Contains, length, slice_get, slice_set}
use Rattle.std.specs.List.Sorted.{IsStrictlyIncreasing}
use Rattle.index_sizes.specs.declared.limits.TheConstants.{MOST_BLOCKS, PAGE_SIZE}
use Rattle.vec_names.specs.declared.params.Params.{Params}
use Rattle.vec_outside.specs.declared.disks.Area.TheVariants.{Pages}
use Rattle.page_bytes.specs.Content.{Content, IsPage}
use Rattle.page_bytes.specs.Decoding.{Spells}
use Rattle.page_file.specs.Area.{block_of}
use Rattle.page_file.specs.declared.fault.PageFileFault.{PageFileFault}
use Rattle.page_file.specs.declared.fault.PageFileFault.TheVariants as file
use Rattle.page_log.specs.Batches.{Placed}
use Rattle.page_log.specs.Opening.{Epoch}
use Rattle.page_log.specs.declared.opening_fault.OpenFault.{OpenFault}
use Rattle.page_log.specs.declared.opening_fault.OpenFault.TheVariants as faults
use Rattle.page_redo.specs.declared.graph_fault.GraphFault.{GraphFault}
use Rattle.page_redo.specs.declared.graph_fault.GraphFault.TheVariants as graph_fault
use Rattle.vec_names.specs.declared.params.Kind.{Kind}
use Rattle.vec_tuples.specs.declared.meta.Meta.{Meta}
use Rattle.vec_history.specs.declared.event.Event.{Event}
use Rattle.page_redo.specs.Redo.{redone, touched}
use Rattle.page_redo.specs.Growing.{AreAllRedone}
use Rattle.vec_recover.specs.declared.redoing.Redoing.{Redoing}
use Rattle.vec_recover.specs.Recovering.{AreFirst, AreOf, AreRedoneAll, CanBeRedone, HasPages, IsLowestBroken, IsLowestOf, IsMissing, Recovery, Stand, StandOf, StopAt, first_number, meta_in, wrap_of}
use Rattle.vec_recover.specs.declared.reading.ReadIndex.{ReadIndex}
use Rattle.vec_recover.specs.declared.reading.Rest.{Rest}
use Rattle.vec_recover.specs.Telling.{Tells}

-- ---- the pages before the events

-- behind the pages before stand those that the page area has for the blocks up to this one
pub record IsFilled (area : List ℕ) (upto : ℕ) (old new : List Content) : Type 0 where
  pub count : length new ≡ upto
  pub front : (block : ℕ) → block < length old → slice_get new block ≡ slice_get old block
  pub each : (block : ℕ) (page : Content) → length old ≤ block → slice_get new block ≡ Some page → Spells (block_of area block) page

-- for this block, from one on, no page stands in the page area; each lower one has a page there
pub record IsGap (area : List ℕ) (from upto block : ℕ) : Type 0 where
  pub low : from ≤ block
  pub high : block < upto
  pub none : (page : Content) → Spells (block_of area block) page → ⊥
  pub before : (lower : ℕ) → from ≤ lower → lower < block → (page : Content) × Spells (block_of area lower) page

-- a fault that names a block's place in the page area, of such a block; of want of memory and of faults nothing is said
abbrev pub IsOfBlock : (ℕ → Type 0) → OpenFault → Type 0
IsOfBlock Is faults.Memory = ⊤
IsOfBlock Is (faults.Disk count) = ⊤
IsOfBlock Is (faults.NotIndex area at) = (area ≡ Pages) × ((block : ℕ) × (at ≡ PAGE_SIZE * block) × Is block)
IsOfBlock Is (faults.BadEvent area at) = ⊥

-- a fault of the page area, as one of an opening
abbrev pub IsSameFault : PageFileFault → OpenFault → Type 0
IsSameFault file.Memory other = other ≡ faults.Memory
IsSameFault (file.Disk count) other = other ≡ faults.Disk count
IsSameFault (file.NotPage at) other = other ≡ faults.NotIndex Pages at

-- ---- the index for which pages stand

-- the place of the block that breaks a rule; want of memory stays so
abbrev pub IsBlockFault : GraphFault → OpenFault → Type 0
IsBlockFault graph_fault.Memory other = other ≡ faults.Memory
IsBlockFault (graph_fault.Bad block) other = other ≡ faults.NotIndex Pages (PAGE_SIZE * block)

-- Pages that stand for an index of the kind, or the lowest block that breaks a rule; of want of memory nothing is said. The
-- parameters are those of the meta tuple.
abbrev pub IsJudged : Kind → List Content → Result (Unit {0}) GraphFault → Type 0
IsJudged kind pages (Ok done) = (m : Meta) → meta_in pages ≡ Some m → m.params.kind ≡ kind → StandOf kind m.params pages
IsJudged kind pages (Err graph_fault.Memory) = ⊤
IsJudged kind pages (Err (graph_fault.Bad block)) = IsLowestOf kind pages block

-- ---- events

-- the page of the block is there and takes the event, and the others stay; or it is not there, or does not take it
abbrev pub IsRedoneAt : Redoing → Event → ℕ → List Content → List Content → Bool → Type 0
IsRedoneAt how event block old new true = (page : Content) × (slice_get old block ≡ Some page)
    × (after : Content) × (redone event how.params how.wrap how.number block page ≡ Some after) × (new ≡ slice_set old block after)
IsRedoneAt how event block old new false =
    (page after : Content) → slice_get old block ≡ Some page → redone event how.params how.wrap how.number block page ≡ Some after → ⊥

-- each of the two blocks has a page, which takes the event, where they stand among these
abbrev pub TakesAt : Redoing → Event → List Content → ℕ → Type 0
TakesAt how event pages block = (page : Content) × (slice_get pages block ≡ Some page)
    × (after : Content) × (redone event how.params how.wrap how.number block page ≡ Some after)

-- these blocks, and no others, are redone
pub record AreRedoneBlocks (how : Redoing) (event : Event) (Is : ℕ → Type 0) (old new : List Content) : Type 0 where
  pub count : length new ≡ length old
  pub takes : (block : ℕ) → Is block → TakesAt how event old block
  pub there : (block : ℕ) (page : Content) → Is block → slice_get old block ≡ Some page
      → slice_get new block ≡ redone event how.params how.wrap how.number block page
  pub elsewhere : (block : ℕ) → (Is block → ⊥) → slice_get new block ≡ slice_get old block

abbrev pub AreBlocksOrNot : Redoing → Event → (ℕ → Type 0) → List Content → List Content → Bool → Type 0
AreBlocksOrNot how event Is old new true = AreRedoneBlocks how event Is old new
AreBlocksOrNot how event Is old new false = ((block : ℕ) → Is block → TakesAt how event old block) → ⊥

abbrev pub IsRedoneAtBoth : Redoing → Event → ℕ → ℕ → List Content → List Content → Bool → Type 0
IsRedoneAtBoth how event first other = AreBlocksOrNot how event (λ block. (block ≡ first) ⊎ (block ≡ other))

abbrev pub IsRedoneOn : Redoing → Event → List Content → List Content → Bool → Type 0
IsRedoneOn how event = AreBlocksOrNot how event (Contains (touched event how.params))

-- the event was redone on all pages that it touches, or one of them is not there or does not take it
abbrev pub IsRedoneOrNot : Redoing → Event → List Content → List Content → Bool → Type 0
IsRedoneOrNot how event old new true =
    HasPages how.params how.wrap how.number old event × AreAllRedone how.params how.wrap how.number event old new
IsRedoneOrNot how event old new false = HasPages how.params how.wrap how.number old event → ⊥

-- the pages stand for an index, have bytes, and are no more than an index may have
pub record ArePages (p : Params) (pages : List Content) : Type 0 where
  pub stand : Stand p pages
  pub few : length pages ≤ MOST_BLOCKS
  pub bytes : All IsPage pages

-- the event was redone, and the pages after it stand for an index; or it can't be redone
abbrev pub IsNextBy : Params → ℕ → ℕ → Event → List Content → List Content → Bool → Type 0
IsNextBy p wrap number event old new true =
    CanBeRedone p wrap number old event × AreAllRedone p wrap number event old new × ArePages p new
IsNextBy p wrap number event old new false = CanBeRedone p wrap number old event → ⊥

-- all events were redone, and the pages after them stand for an index; or the first that can't be stands at this place
abbrev pub IsReplayed : Redoing → List Placed → List Content → List Content → Option ℕ → Type 0
IsReplayed first events old new None =
    AreRedoneAll first.params first.wrap first.number events old new × ArePages first.params new
IsReplayed first events old new (Some at) = StopAt first.params first.wrap first.number events old at

-- the blocks are these two, or there is none
abbrev pub AreTouched : List ℕ → Option (ℕ × ℕ) → Type 0
AreTouched blocks None = (block : ℕ) → Contains blocks block → ⊥
AreTouched blocks (Some pair) = (block : ℕ) → Contains blocks block ↔ ((block ≡ pair.0) ⊎ (block ≡ pair.1))

-- ---- unwritten blocks

abbrev pub IsMarked : List Bool → ℕ → Type 0
IsMarked marks block = slice_get marks block ≡ Some true

-- besides those that were marked, these are, where there is a mark for them
pub record AreMarkedMore (old new : List Bool) (Is : ℕ → Type 0) : Type 0 where
  pub count : length new ≡ length old
  pub each : (block : ℕ) → IsMarked new block ↔ (IsMarked old block ⊎ (Is block × (block < length old)))

-- of the blocks that an index may have just these are marked
pub record AreMarked (marks : List Bool) (Is : ℕ → Type 0) : Type 0 where
  pub count : length marks ≡ MOST_BLOCKS
  pub each : (block : ℕ) → IsMarked marks block ↔ ((block < MOST_BLOCKS) × Is block)

-- All events were redone, and no batch is bad; or the first batch or event that can't be taken stands at this place.
abbrev pub IsLogEnd : Redoing → List Placed → Option ℕ → List Content → List Content → Option ℕ → Type 0
IsLogEnd first events bad old new None =
    (bad ≡ None) × AreRedoneAll first.params first.wrap first.number events old new × ArePages first.params new
IsLogEnd first events bad old new (Some at) =
    StopAt first.params first.wrap first.number events old at
    ⊎ ((bad ≡ Some at) × ((after : List Content) × AreRedoneAll first.params first.wrap first.number events old after))

-- ---- an epoch that was read

-- it is no fault of a disk
abbrev pub IsNoDisk : OpenFault → Type 0
IsNoDisk (faults.Disk count) = ⊥
IsNoDisk fault = ⊤

-- an epoch with these images and the rest as it was read, of so many blocks
abbrev pub epoch_with : Rest → ℕ → List (ℕ × Content) → Epoch
epoch_with rest blocks images = record {
  area = rest.area;
  head = record { form = rest.form; epoch = rest.epoch; before = rest.before; blocks = blocks; images = length images };
  images = images;
  events = rest.events.items;
  end = rest.end;
  used = rest.used;
  bad = rest.bad;
}

-- What an opening comes to once the epoch is read, over bytes of the page area: the index, or the place of what is wrong.
abbrev pub Rebuilds : Epoch → List Content → Result ReadIndex OpenFault → Type 0
Rebuilds epoch first (Ok read) = (recovery : Recovery) × (recovery.epoch ≡ epoch) × Tells read recovery
    × AreOf epoch.head.form recovery.params first
    × (epoch.bad ≡ None) × AreRedoneAll recovery.params (wrap_of epoch.head.form) (first_number epoch) epoch.events first recovery.pages
Rebuilds epoch first (Err faults.Memory) = ⊤
Rebuilds epoch first (Err (faults.Disk count)) = ⊤
Rebuilds epoch first (Err (faults.NotIndex area at)) =
    (area ≡ Pages) × ((block : ℕ) × (at ≡ PAGE_SIZE * block) × IsLowestBroken epoch.head.form first block)
Rebuilds epoch first (Err (faults.BadEvent area at)) = (area ≡ epoch.area) × ((p : Params) × AreOf epoch.head.form p first
    × (StopAt p (wrap_of epoch.head.form) (first_number epoch) epoch.events first at
    ⊎ ((epoch.bad ≡ Some at) × ((after : List Content)
    × AreRedoneAll p (wrap_of epoch.head.form) (first_number epoch) epoch.events first after))))

abbrev pub IsRebuilt : Rest → List (ℕ × Content) → List Content → Result ReadIndex OpenFault → Type 0
IsRebuilt rest images first result = (blocks : ℕ) → Rebuilds (epoch_with rest blocks images) first result

-- the same, with the pages before the events as the epoch and the page area tell them, or a block that has none
abbrev pub IsOpened : List ℕ → Epoch → Result ReadIndex OpenFault → Type 0
IsOpened area epoch (Ok read) = (first : List Content) × AreFirst epoch.images area epoch.head.blocks first × Rebuilds epoch first (Ok read)
IsOpened area epoch (Err fault) = IsOfBlock (IsMissing epoch.images area epoch.head.blocks) fault
    ⊎ ((first : List Content) × AreFirst epoch.images area epoch.head.blocks first × Rebuilds epoch first (Err fault))

-- what was read, with these pages and blocks
abbrev pub IsReadOf : Rest → List ℕ → List Content → ReadIndex → Type 0
IsReadOf rest unwritten pages read =
    (read.form ≡ rest.form) × (read.loaded.pages.items ≡ pages) × (read.loaded.epoch ≡ rest.epoch) × (read.loaded.area ≡ rest.area)
    × (read.loaded.before ≡ (rest.before + length rest.events.items) % 2 ^ 64) × (read.loaded.end ≡ rest.end)
    × (read.loaded.used ≡ rest.used) × (read.loaded.unwritten.items ≡ unwritten)

-- its log goes on where the epoch's does, its pages are few, and its unwritten blocks rise and are there
pub record HasLists (rest : Rest) (read : ReadIndex) : Type 0 where
  pub few : length read.loaded.pages.items ≤ MOST_BLOCKS
  pub epoch : read.loaded.epoch ≡ rest.epoch
  pub area : read.loaded.area ≡ rest.area
  pub end : read.loaded.end ≡ rest.end
  pub used : read.loaded.used ≡ rest.used
  pub rising : IsStrictlyIncreasing read.loaded.unwritten.items
  pub there : All (λ block. block < length read.loaded.pages.items) read.loaded.unwritten.items

-- the pages stand for an index
abbrev pub IsStandingFor : ReadIndex → Type 0
IsStandingFor read = (p : Params) × Stand p read.loaded.pages.items

-- the marked blocks below this one, rising
pub record AreUpTo (marks : List Bool) (block : ℕ) (list : List ℕ) : Type 0 where
  pub rising : IsStrictlyIncreasing list
  pub each : (b : ℕ) → Contains list b ↔ ((b < block) × IsMarked marks b)
