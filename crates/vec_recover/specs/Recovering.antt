-- What the bytes of the three areas recover to: no index, an index with its pages, or the place of what is wrong.
use Rattle.std.specs.Prelude.{◌≡◌, ◌≢◌, ◌⊎◌, ℕ, ◌*◌, ◌<◌, ◌==◌, if◌then◌else◌, List, [], ◌∷◌, length, slice_get, Option, Some, None, Result, Ok, Err, ⊤, Contains}
use Rattle.std.specs.Option.{option_and_then}
use Rattle.index_sizes.specs.declared.limits.TheConstants.{PAGE_SIZE}
use Rattle.vec_names.specs.declared.params.Kind.{Kind}
use Rattle.vec_names.specs.declared.params.Kind.TheVariants.{Hnsw, Ivf}
use Rattle.vec_names.specs.declared.params.Params.{Params}
use Rattle.vec_history.specs.declared.event.Event.{Event}
use Rattle.vec_outside.specs.Disk.{Image}
use Rattle.vec_outside.specs.declared.disks.Area.{Area}
use Rattle.vec_outside.specs.declared.disks.Area.TheVariants.{Pages}
use Rattle.page_bytes.specs.Content.{Content}
use Rattle.page_bytes.specs.Decoding.{Spells}
use Rattle.vec_tuples.specs.declared.meta.Meta.{Meta}
use Rattle.vec_graph.specs.declared.graph.Graph.{Graph}
use Rattle.ivf_graph.specs.declared.graph.IvfGraph.{IvfGraph}
use Rattle.page_redo.specs.PageTuples.{meta_at}
use Rattle.page_redo.specs.Redo.{redone, touched}
use Rattle.page_redo.specs.Growing.{AreAllRedone, extended}
use Rattle.page_redo.specs.Replaying.{next_number}
use Rattle.graph_pages.specs.Standing as nodes
use Rattle.graph_pages.specs.Following as nodes_follow
use Rattle.ivf_pages.specs.Standing as lists
use Rattle.ivf_pages.specs.Following as lists_follow
use Rattle.page_file.specs.Area.{block_of}
use Rattle.page_log.specs.Batches.{Placed}
use Rattle.page_log.specs.Opening.{Epoch, ReadsAs}
use Rattle.page_log.specs.declared.opening_fault.OpenFault.{OpenFault}
use Rattle.page_log.specs.declared.opening_fault.OpenFault.TheVariants as faults

-- ---- the pages before the events

-- the image of the block, where the epoch has one
abbrev pub image_of : List (ℕ × Content) → ℕ → Option Content
image_of [] block = None
image_of (image ∷ images) block = if image.0 == block then Some image.1 else image_of images block

abbrev pub IsFirstOf : Option Content → List ℕ → ℕ → Content → Type 0
IsFirstOf (Some image) area block page = page ≡ image
IsFirstOf None area block page = Spells (block_of area block) page

-- The page of a block before the events: its image, or else what the page area has there.
abbrev pub IsFirst : List (ℕ × Content) → List ℕ → ℕ → Content → Type 0
IsFirst images area block page = IsFirstOf (image_of images block) area block page

-- so many blocks have these pages before the events
pub record AreFirst (images : List (ℕ × Content)) (area : List ℕ) (blocks : ℕ) (pages : List Content) : Type 0 where
  pub count : length pages ≡ blocks
  pub each : (block : ℕ) (page : Content) → slice_get pages block ≡ Some page → IsFirst images area block page

-- The block has no image, and no page stands for it in the page area. Each lower block has a page.
pub record IsMissing (images : List (ℕ × Content)) (area : List ℕ) (blocks block : ℕ) : Type 0 where
  pub there : block < blocks
  pub no_image : image_of images block ≡ None
  pub none : (page : Content) → ¬ Spells (block_of area block) page
  pub before : (lower : ℕ) → lower < block → (page : Content) × IsFirst images area lower page

-- ---- the index for which they stand

abbrev pub meta_in : List Content → Option Meta
meta_in pages = option_and_then meta_at (slice_get pages 0)

abbrev pub StandOf : Kind → Params → List Content → Type 0
StandOf Hnsw p pages = (g : Graph) × nodes.Stands pages g × (g.params ≡ p)
StandOf Ivf p pages = (g : IvfGraph) × lists.Stands p pages g

-- the pages stand for an index with these parameters
abbrev pub Stand : Params → List Content → Type 0
Stand p pages = StandOf p.kind p pages

-- the same, and their meta tuple has this format
pub record AreOf (form : ℕ) (p : Params) (pages : List Content) : Type 0 where
  pub meta : Meta
  pub told : meta_in pages ≡ Some meta
  pub params : meta.params ≡ p
  pub format : meta.format ≡ form
  pub stand : Stand p pages

-- the lowest block that breaks a rule of pages of this kind
abbrev pub IsLowestOf : Kind → List Content → ℕ → Type 0
IsLowestOf Hnsw pages block = nodes.IsFirstBroken pages block
IsLowestOf Ivf pages block = lists.IsFirstBroken pages block

-- The lowest block by which the pages stand for no index of this form: block 0, where it has no meta tuple of this format, or else
-- the first that breaks a rule of the kind that the meta tuple tells.
abbrev pub IsLowestBy : ℕ → List Content → ℕ → Option Meta → Type 0
IsLowestBy form pages block None = block ≡ 0
IsLowestBy form pages block (Some meta) =
    ((block ≡ 0) × (meta.format ≢ form)) ⊎ ((meta.format ≡ form) × IsLowestOf meta.params.kind pages block)

abbrev pub IsLowestBroken : ℕ → List Content → ℕ → Type 0
IsLowestBroken form pages block = IsLowestBy form pages block (meta_in pages)

-- ---- the events

-- the version after which 1 follows, in a log of this form
abbrev pub wrap_of : ℕ → ℕ
wrap_of form = if form == 1 then 15 else 255

abbrev pub FollowsOf : Kind → Params → List Content → Event → Type 0
FollowsOf Hnsw p pages event = (g : Graph) × nodes.Stands pages g × (g.params ≡ p) × nodes_follow.Follows pages g event
FollowsOf Ivf p pages event = (g : IvfGraph) × lists.Stands p pages g × lists_follow.Follows g event

-- each block that the event touches has a page, a fresh one where the event makes the block, and redo makes another page of it
abbrev pub HasPages : Params → ℕ → ℕ → List Content → Event → Type 0
HasPages p wrap number pages event = (block : ℕ) → Contains (touched event p) block
    → (page : Content) × (slice_get (extended event pages) block ≡ Some page)
    × (after : Content) × (redone event p wrap number block page ≡ Some after)

-- An event can be redone on pages that stand for an index: it follows on the index, and fits each page that it touches.
pub record CanBeRedone (p : Params) (wrap number : ℕ) (pages : List Content) (event : Event) : Type 0 where
  pub follows : FollowsOf p.kind p pages event
  pub has : HasPages p wrap number pages event

-- The events are redone one after the other, the first with this number and each next one with the next.
abbrev pub AreRedoneAll : Params → ℕ → ℕ → List Placed → List Content → List Content → Type 0
AreRedoneAll p wrap number [] pages after = after ≡ pages
AreRedoneAll p wrap number (placed ∷ events) pages after =
    CanBeRedone p wrap number pages placed.1
    × ((mid : List Content) × AreAllRedone p wrap number placed.1 pages mid × AreRedoneAll p wrap (next_number number) events mid after)

-- the first event that can't be redone stands at this place
abbrev pub StopAt : Params → ℕ → ℕ → List Placed → List Content → ℕ → Type 0
StopAt p wrap number [] pages at = ⊥
StopAt p wrap number (placed ∷ events) pages at =
    ((placed.0 ≡ at) × ¬ CanBeRedone p wrap number pages placed.1)
    ⊎ (CanBeRedone p wrap number pages placed.1
    × ((mid : List Content) × AreAllRedone p wrap number placed.1 pages mid × StopAt p wrap (next_number number) events mid at))

-- ---- blocks that the page area may lack

-- the block has an image
abbrev pub IsImaged : List (ℕ × Content) → ℕ → Type 0
IsImaged [] block = ⊥
IsImaged (image ∷ images) block = (block ≡ image.0) ⊎ IsImaged images block

-- one of the events touches the block
abbrev pub IsTouchedBy : Params → List Placed → ℕ → Type 0
IsTouchedBy p [] block = ⊥
IsTouchedBy p (placed ∷ events) block = Contains (touched placed.1 p) block ⊎ IsTouchedBy p events block

-- ---- all of it

-- an index as it is recovered: the epoch that counts, the index's parameters, and its pages after the epoch's events
pub record Recovery : Type 0 where
  pub epoch : Epoch
  pub params : Params
  pub pages : List Content

-- The areas read as this epoch, whose pages before its events stand for an index with these parameters.
pub record Begins (image : Image) (epoch : Epoch) (p : Params) (first : List Content) : Type 0 where
  pub reads : ReadsAs image (Ok (Some epoch))
  pub are_first : AreFirst epoch.images (image Pages) epoch.head.blocks first
  pub are_of : AreOf epoch.head.form p first

-- the number of the first event of an epoch
abbrev pub first_number : Epoch → ℕ
first_number epoch = next_number epoch.head.before

-- The page area may lack the block's page: it has an image in the epoch, or is touched by an event.
abbrev pub IsUnwritten : Recovery → ℕ → Type 0
IsUnwritten r block = IsImaged r.epoch.images block ⊎ IsTouchedBy r.params r.epoch.events block

-- The areas recover to the index: no batch is bad, and its events can be redone on the pages before them, which leaves these.
pub record IsRecovered (image : Image) (r : Recovery) : Type 0 where
  pub first : List Content
  pub begins : Begins image r.epoch r.params first
  pub whole : r.epoch.bad ≡ None
  pub redone : AreRedoneAll r.params (wrap_of r.epoch.head.form) (first_number r.epoch) r.epoch.events first r.pages

-- in the areas stands no index, by this place: by the logs alone, or by a block that has no page or breaks a rule
abbrev pub IsNoIndexBy : Image → Epoch → ℕ → Type 0
IsNoIndexBy image epoch block =
    IsMissing epoch.images (image Pages) epoch.head.blocks block
    ⊎ ((first : List Content) × AreFirst epoch.images (image Pages) epoch.head.blocks first × IsLowestBroken epoch.head.form first block)

abbrev pub IsNoIndex : Image → Area → ℕ → Type 0
IsNoIndex image area at =
    ReadsAs image (Err (area, at))
    ⊎ ((area ≡ Pages) × ((epoch : Epoch) × ReadsAs image (Ok (Some epoch))
    × ((block : ℕ) × (at ≡ PAGE_SIZE * block) × IsNoIndexBy image epoch block)))

-- The batch or event at this place of the epoch's area is the first that can't be taken: the events before can be redone.
pub record IsBadAt (image : Image) (area : Area) (at : ℕ) : Type 0 where
  pub epoch : Epoch
  pub area_is : area ≡ epoch.area
  pub params : Params
  pub first : List Content
  pub begins : Begins image epoch params first
  pub bad : StopAt params (wrap_of epoch.head.form) (first_number epoch) epoch.events first at
      ⊎ ((epoch.bad ≡ Some at)
      × ((after : List Content) × AreRedoneAll params (wrap_of epoch.head.form) (first_number epoch) epoch.events first after))

-- What the areas recover to; of want of memory and of faults nothing is said.
abbrev pub RecoversTo : Image → Result (Option Recovery) OpenFault → Type 0
RecoversTo image (Ok None) = ReadsAs image (Ok None)
RecoversTo image (Ok (Some r)) = IsRecovered image r
RecoversTo image (Err faults.Memory) = ⊤
RecoversTo image (Err (faults.Disk count)) = ⊤
RecoversTo image (Err (faults.NotIndex area at)) = IsNoIndex image area at
RecoversTo image (Err (faults.BadEvent area at)) = IsBadAt image area at
