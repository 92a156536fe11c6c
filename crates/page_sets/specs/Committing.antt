-- What an event makes of some pages of an index, beside all of them.
use Rattle.std.specs.Prelude.{◌≡◌, ◌≢◌, ◌⊎◌, ◌≤◌, ◌<◌, ◌^◌, ℕ, List, Contains, slice_get, length, Option, Some}
use Rattle.vec_names.specs.declared.params.Params.{Params}
use Rattle.vec_history.specs.declared.event.Event.{Event}
use Rattle.page_bytes.specs.Content.{Content}
use Rattle.page_redo.specs.Redo.{redone, touched}
use Rattle.page_redo.specs.Growing.{AreAllRedone}
use Rattle.page_sets.specs.Sets.{PageMap, IsPartOf, HasPages}
use Rattle.page_sets.specs.declared.doing.Touched.{Touched}

-- Of all pages of an index the set has some, those that the event touches among them; of a new block it has none.
pub record HasTouched (set : PageMap) (all : List Content) (event : Event) (p : Params) : Type 0 where
  pub part : IsPartOf set all
  pub has : HasPages set all (touched event p)

-- All pages after the event, which was redone on each block that it touches, new ones among them. The set has them as it had those
-- before: some of them, those that were touched among them; and of any other block the page that it had.
pub record IsCommitted (old new : PageMap) (all after : List Content) (event : Event) (p : Params) (number : ℕ) : Type 0 where
  pub redone : AreAllRedone p 255 number event all after
  pub part : IsPartOf new after
  pub has : HasPages new after (touched event p)
  pub elsewhere : (block : ℕ) → block < length all → (Contains (touched event p) block → ⊥) → new block ≡ old block

-- ---- helper words of the functions

-- the block is one of these two
abbrev pub IsOf : Touched → ℕ → Type 0
IsOf t block = (block ≡ t.first) ⊎ (t.other ≡ Some block)

-- the list has just these blocks, which are apart
pub record AreThese (blocks : List ℕ) (t : Touched) : Type 0 where
  pub each : (block : ℕ) → Contains blocks block → IsOf t block
  pub back : (block : ℕ) → IsOf t block → Contains blocks block
  pub apart : (block : ℕ) → t.other ≡ Some block → block ≢ t.first

-- the set has the pages of these blocks as they stand among all
abbrev pub HasThese : PageMap → List Content → Touched → Type 0
HasThese set all t = (block : ℕ) → IsOf t block → set block ≡ slice_get all block

-- redo takes the event on each of these blocks
abbrev pub FitThese : List Content → Params → ℕ → Event → Touched → Type 0
FitThese all p number event t = (block : ℕ) → IsOf t block
    → (page : Content) × (slice_get all block ≡ Some page) × (after : Content) × (redone event p 255 number block page ≡ Some after)

-- each of these blocks is redone, and the others stay
pub record AreTheseRedone (p : Params) (number : ℕ) (event : Event) (t : Touched) (all after : List Content) : Type 0 where
  pub count : length after ≡ length all
  pub there : (block : ℕ) (page : Content) → IsOf t block → slice_get all block ≡ Some page
      → slice_get after block ≡ redone event p 255 number block page
  pub elsewhere : (block : ℕ) → (IsOf t block → ⊥) → slice_get after block ≡ slice_get all block

-- and so in the set
pub record IsRedoneSet (old new : PageMap) (all after : List Content) (p : Params) (number : ℕ) (event : Event) (t : Touched) : Type 0 where
  pub redone : AreTheseRedone p number event t all after
  pub part : IsPartOf new after
  pub has : HasThese new after t
  pub elsewhere : (block : ℕ) → (IsOf t block → ⊥) → new block ≡ old block

-- The set has a fresh page for each new block up to this one, and else what it had.
pub record IsExtended (old new : PageMap) (blocks upto : ℕ) (fresh : Content) : Type 0 where
  pub here : (block : ℕ) → blocks ≤ block → block < upto → new block ≡ Some fresh
  pub low : (block : ℕ) → block < blocks → new block ≡ old block
  pub high : (block : ℕ) → upto ≤ block → new block ≡ old block
